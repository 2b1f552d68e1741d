use Rattle.pua_script.proofs.Common.{◌∙◌, ap, sym, false, Ok, Err, OnPath, asker_of, NoChange, Found, Some, Failed, Decision}
use Rattle.pua_script.specs.Decide.{change_by, decide_object, if_named, past_promises}
use Rattle.pua_script.specs.declared.granted.Granted.TheVariants as granted
use Rattle.pua_script.specs.Openings.{opening_seen}
use Rattle.pua_script.proofs.Acting.{acts, opened_by}
use Rattle.pua_script.proofs.Widened.{opened_past}
use Rattle.pua_script.proofs.act.opened.Goals as goal

pub returns-then-row-clause-exact : goal.returns-then-row-clause-exact
returns-then-row-clause-exact g c = λ is.
    let t = g.T.FileTree.content c.args.tree.now in
    let table = c.args.table.now in
    let p = c.args.process.now in
    let call = c.args.call in
    let path = c.args.path.now in
    let further : Found → Decision = λ object. Ok (change_by table call object) in
    c.unasked.ensures.exact (sym (opened_by table t p call path (Some (opening_seen c.args.row.now)) is)
    ∙ ap (λ b. decide_object table t (past_promises b (asker_of p)) call path further) c.if-row.true)

pub returns-in-Ok-clause-exact : goal.returns-in-Ok-clause-exact
returns-in-Ok-clause-exact g c = λ is.
    let t = g.T.FileTree.content c.args.tree.now in
    let table = c.args.table.now in
    let p = c.args.process.now in
    let call = c.args.call in
    let path = c.args.path.now in
    let row = opening_seen c.args.row.now in
    let further : Found → Decision = λ object. Ok (change_by table call object) in
    acts table t p (OnPath call path) (Ok granted.NoChange)
    (ap (λ r. if_named r (λ one. Ok NoChange)) (sym c.in-Ok.is) ∙ sym c.judge_fit.ensures
    ∙ (λ i. decide_object table t (past_promises false (asker_of p)) call path
    (λ object. Ok (sym (opened_past table p call path row is c.if-row.false object) i)))
    ∙ ap (λ b. decide_object table t (past_promises b (asker_of p)) call path further) (sym c.if-row.false)
    ∙ opened_by table t p call path (Some row) is)
    _ _ c.answer.result c.answer.ensures.exact

pub returns-in-Err-clause-exact : goal.returns-in-Err-clause-exact
returns-in-Err-clause-exact g c = λ is.
    let t = g.T.FileTree.content c.args.tree.now in
    let table = c.args.table.now in
    let p = c.args.process.now in
    let call = c.args.call in
    let path = c.args.path.now in
    let row = opening_seen c.args.row.now in
    let further : Found → Decision = λ object. Ok (change_by table call object) in
    acts table t p (OnPath call path) (Err (Failed c.in-Err.errno))
    (ap (λ r. if_named r (λ one. Ok NoChange)) (sym c.in-Err.is) ∙ sym c.judge_fit.ensures
    ∙ (λ i. decide_object table t (past_promises false (asker_of p)) call path
    (λ object. Ok (sym (opened_past table p call path row is c.if-row.false object) i)))
    ∙ ap (λ b. decide_object table t (past_promises b (asker_of p)) call path further) (sym c.if-row.false)
    ∙ opened_by table t p call path (Some row) is)
    _ _ c.answer-in-Err.result c.answer-in-Err.ensures.exact
