use Rattle.pua_script.proofs.Common.{sym, ap, ◌∙◌, node_named, asker_of, decide_link, Ok, Err, Dot, Link, TieRow}
use Rattle.pua_script.specs.Judged.{tied}
use Rattle.pua_script.specs.declared.granted.Granted.TheVariants as granted
use Rattle.pua_script.proofs.Acting.{acts}
use Rattle.pua_script.proofs.Pairing.{pair_held, pair_refused}
use Rattle.pua_script.proofs.act.link.Goals as goal

pub returns-in-Err-clause-exact : goal.returns-in-Err-clause-exact
returns-in-Err-clause-exact g c =
    let t = g.T.FileTree.content c.args.tree.now in
    let p = c.args.process.now in
    acts c.args.table.now t p (Link c.args.old.now c.args.new.now) (Err c.in-Err.refusal)
    (pair_refused c.args.table.now.whose c.args.table.now.link _ c.link-need.ensures t p Dot c.args.old.now c.args.new.now
    (λ a b. decide_link t a b (node_named a)) _ c.promised_pair.ensures c.in-Err.refusal c.in-Err.is)
    _ _ c.answer.result c.answer.ensures.exact

pub returns-in-Ok-None-clause-exact : goal.returns-in-Ok-None-clause-exact
returns-in-Ok-None-clause-exact g c =
    let t = g.T.FileTree.content c.args.tree.now in
    let p = c.args.process.now in
    acts c.args.table.now t p (Link c.args.old.now c.args.new.now) (Ok granted.NoChange)
    (pair_held c.args.table.now.whose c.args.table.now.link _ c.link-need.ensures t p Dot c.args.old.now c.args.new.now
    (λ a b. decide_link t a b (node_named a)) _ c.promised_pair.ensures _ c.in-Ok.is _
    (rw c.in-Ok-None.field-0-is at c.in-Ok-None.ensures))
    _ _ c.answer-in-Ok-None.result c.answer-in-Ok-None.ensures.exact

pub returns-in-Err-judge_link-clause-exact : goal.returns-in-Err-judge_link-clause-exact
returns-in-Err-judge_link-clause-exact g c =
    let t = g.T.FileTree.content c.args.tree.now in
    let p = c.args.process.now in
    acts c.args.table.now t p (Link c.args.old.now c.args.new.now) (Err c.in-Err-judge_link.refusal)
    (pair_held c.args.table.now.whose c.args.table.now.link _ c.link-need.ensures t p Dot c.args.old.now c.args.new.now
    (λ a b. decide_link t a b (node_named a)) _ c.promised_pair.ensures _ c.in-Ok.is _
    (ap tied (sym c.in-Err-judge_link.is) ∙ c.judge_link.ensures))
    _ _ c.answer-in-Err-judge_link.result c.answer-in-Err-judge_link.ensures.exact

pub returns-clause-exact : goal.returns-clause-exact
returns-clause-exact g c =
    let t = g.T.FileTree.content c.args.tree.now in
    let p = c.args.process.now in
    acts c.args.table.now t p (Link c.args.old.now c.args.new.now) (Ok c.naming-granted.result)
    (pair_held c.args.table.now.whose c.args.table.now.link _ c.link-need.ensures t p Dot c.args.old.now c.args.new.now
    (λ a b. decide_link t a b (node_named a)) _ c.promised_pair.ensures _ c.in-Ok.is _
    (c.naming-granted.ensures (asker_of p) ∙ (λ i. Ok (TieRow (c.in-Ok-Some.tie.dir, c.name-name.ensures i) c.in-Ok-Some.tie.node))
    ∙ rw c.in-Ok-Some.field-0-is at c.in-Ok-Some.ensures))
    _ _ c.answer-2.result c.answer-2.ensures.exact
