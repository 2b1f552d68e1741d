use Rattle.pua_script.proofs.Common.{ℕ, List, Bool, Tree, CallTable, ProcessState, Decision, sym, ap, ◌∙◌, node_named, asker_of, decide_rename, Ok, Err, Dropped, Rename, ShiftRow}
use Rattle.pua_script.specs.Decide.{asks_directory, decide_pair}
use Rattle.pua_script.specs.Judged.{shifted}
use Rattle.pua_script.specs.declared.granted.Granted.TheVariants as granted
use Rattle.pua_script.proofs.Acting.{acts}
use Rattle.pua_script.proofs.Pairing.{pair_held, pair_refused}
use Rattle.pua_script.proofs.act.rename.Goals as goal

-- what is decided of a rename, where a directory is asked for or not
abbrev renaming : CallTable → Tree → ProcessState → List ℕ → List ℕ → Bool → Decision
renaming table t p old new asks = decide_pair table.whose table.rename t (asker_of p) Dropped old new (λ a b. decide_rename t asks a b (node_named a))

pub returns-in-Err-clause-exact : goal.returns-in-Err-clause-exact
returns-in-Err-clause-exact g c =
    let t = g.T.FileTree.content c.args.tree.now in
    let p = c.args.process.now in
    acts c.args.table.now t p (Rename c.args.old.now c.args.new.now) (Err c.in-Err.refusal)
    (pair_refused c.args.table.now.whose c.args.table.now.rename _ c.rename-need.ensures t p Dropped c.args.old.now c.args.new.now
    (λ a b. decide_rename t (asks_directory c.args.table.now.whose c.args.old.now c.args.new.now) a b (node_named a)) _ c.promised_pair.ensures c.in-Err.refusal c.in-Err.is)
    _ _ c.answer.result c.answer.ensures.exact

pub returns-in-Ok-None-clause-exact : goal.returns-in-Ok-None-clause-exact
returns-in-Ok-None-clause-exact g c =
    let t = g.T.FileTree.content c.args.tree.now in
    let p = c.args.process.now in
    let asks = c.asks_directory-asks.ensures ∙ ap (λ whose. asks_directory whose c.args.old.now c.args.new.now) c.rules.ensures in
    acts c.args.table.now t p (Rename c.args.old.now c.args.new.now) (Ok granted.NoChange)
    (pair_held c.args.table.now.whose c.args.table.now.rename _ c.rename-need.ensures t p Dropped c.args.old.now c.args.new.now
    (λ a b. decide_rename t c.asks_directory-asks.result a b (node_named a)) _ c.promised_pair.ensures _ c.in-Ok.is _
    (rw c.in-Ok-None.field-0-is at c.in-Ok-None.ensures)
    ∙ ap (renaming c.args.table.now t p c.args.old.now c.args.new.now) asks)
    _ _ c.answer-in-Ok-None.result c.answer-in-Ok-None.ensures.exact

pub returns-in-Err-judge_rename-clause-exact : goal.returns-in-Err-judge_rename-clause-exact
returns-in-Err-judge_rename-clause-exact g c =
    let t = g.T.FileTree.content c.args.tree.now in
    let p = c.args.process.now in
    let asks = c.asks_directory-asks.ensures ∙ ap (λ whose. asks_directory whose c.args.old.now c.args.new.now) c.rules.ensures in
    acts c.args.table.now t p (Rename c.args.old.now c.args.new.now) (Err c.in-Err-judge_rename.refusal)
    (pair_held c.args.table.now.whose c.args.table.now.rename _ c.rename-need.ensures t p Dropped c.args.old.now c.args.new.now
    (λ a b. decide_rename t c.asks_directory-asks.result a b (node_named a)) _ c.promised_pair.ensures _ c.in-Ok.is _
    (ap shifted (sym c.in-Err-judge_rename.is) ∙ c.judge_rename.ensures)
    ∙ ap (renaming c.args.table.now t p c.args.old.now c.args.new.now) asks)
    _ _ c.answer-in-Err-judge_rename.result c.answer-in-Err-judge_rename.ensures.exact

pub returns-clause-exact : goal.returns-clause-exact
returns-clause-exact g c =
    let t = g.T.FileTree.content c.args.tree.now in
    let p = c.args.process.now in
    let asks = c.asks_directory-asks.ensures ∙ ap (λ whose. asks_directory whose c.args.old.now c.args.new.now) c.rules.ensures in
    acts c.args.table.now t p (Rename c.args.old.now c.args.new.now) (Ok c.moving-granted.result)
    (pair_held c.args.table.now.whose c.args.table.now.rename _ c.rename-need.ensures t p Dropped c.args.old.now c.args.new.now
    (λ a b. decide_rename t c.asks_directory-asks.result a b (node_named a)) _ c.promised_pair.ensures _ c.in-Ok.is _
    (c.moving-granted.ensures (asker_of p) ∙ (λ i. Ok (ShiftRow (c.in-Ok-Some.shift.from, c.name-name.ensures i) (c.in-Ok-Some.shift.to, c.name-new_name.ensures i)))
    ∙ rw c.in-Ok-Some.field-0-is at c.in-Ok-Some.ensures)
    ∙ ap (renaming c.args.table.now t p c.args.old.now c.args.new.now) asks)
    _ _ c.answer-2.result c.answer-2.ensures.exact
