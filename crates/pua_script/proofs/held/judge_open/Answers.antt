use Rattle.pua_script.proofs.Common.{ℕ, sym, ap, ◌∙◌, Ok, Some, Option, option_map, asker_of, Decision}
use Rattle.pua_script.specs.Decide.{decide_object, file_opened, filing, holding, past_promises}
use Rattle.pua_script.specs.Openings.{opening_seen}
use Rattle.pua_script.proofs.Acting.{held_by}
use Rattle.pua_script.proofs.held.judge_open.Goals as goal

pub returns-in-Some : goal.returns-in-Some
returns-in-Some g c = λ number.
    let t = g.T.FileTree.content c.args.tree.now in
    let table = c.args.table.now in
    let p = c.args.process.now in
    let call = c.args.call in
    let path = c.args.path.now in
    let further : Option ℕ → Decision = λ node. Ok (filing number (file_opened t call node)) in
    c.node_past.ensures further
    ∙ ap (λ b. decide_object table t (past_promises b (asker_of p)) call path (λ object. Ok (holding t number call object))) (sym c.if-not-row.true)
    ∙ held_by table t p number call path (Some (opening_seen c.in-Some.row.now))
    (sym c.opening_of.ensures ∙ ap (option_map (λ row. opening_seen row.now)) c.in-Some.is)

pub returns-in-Some-2 : goal.returns-in-Some-2
returns-in-Some-2 g c = λ number.
    let t = g.T.FileTree.content c.args.tree.now in
    let table = c.args.table.now in
    let p = c.args.process.now in
    let call = c.args.call in
    let path = c.args.path.now in
    let further : Option ℕ → Decision = λ node. Ok (filing number (file_opened t call node)) in
    c.node_judged.ensures further
    ∙ ap (λ b. decide_object table t (past_promises b (asker_of p)) call path (λ object. Ok (holding t number call object))) (sym c.if-not-row.false)
    ∙ held_by table t p number call path (Some (opening_seen c.in-Some.row.now))
    (sym c.opening_of.ensures ∙ ap (option_map (λ row. opening_seen row.now)) c.in-Some.is)
