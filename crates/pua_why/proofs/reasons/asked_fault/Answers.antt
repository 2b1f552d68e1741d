use Rattle.pua_why.proofs.Common.{ap, sym, ◌∙◌, Option, OnPath, change_by, faults, faults_of, refused_by, Bool}
use Rattle.std.specs.Prelude.{option_map, Ok}
use Rattle.pua_script.specs.Decide.{asker_past, decide_by, object_by, past_promises}
use Rattle.pua_script.specs.Openings.{Opening, opening_seen}
use Rattle.pua_why.proofs.reasons.asked_fault.Goals as goal

pub returns-in-Some : goal.returns-in-Some
returns-in-Some g c =
    let t = g.T.FileTree.content c.args.tree.now in
    let p = c.args.process.now in
    let table = c.args.table.now in
    c.object_fault.ensures (change_by table c.args.call)
    ∙ ap (λ (asks : Bool). refused_by (object_by faults table t (past_promises asks (faults_of p)) c.args.call c.args.path.now
    (λ object. Ok (change_by table c.args.call object)))) (sym c.if-row.true)
    ∙ ap (λ (o : Option Opening). refused_by (decide_by faults table t (asker_past o (faults_of p)) (OnPath c.args.call c.args.path.now)))
    (ap (option_map (λ row. opening_seen row.now)) (sym c.in-Some.is) ∙ c.opening_of.ensures)

pub returns-in-Some-2 : goal.returns-in-Some-2
returns-in-Some-2 g c =
    let t = g.T.FileTree.content c.args.tree.now in
    let p = c.args.process.now in
    let table = c.args.table.now in
    c.fit_fault.ensures (change_by table c.args.call)
    ∙ ap (λ (asks : Bool). refused_by (object_by faults table t (past_promises asks (faults_of p)) c.args.call c.args.path.now
    (λ object. Ok (change_by table c.args.call object)))) (sym c.if-row.false)
    ∙ ap (λ (o : Option Opening). refused_by (decide_by faults table t (asker_past o (faults_of p)) (OnPath c.args.call c.args.path.now)))
    (ap (option_map (λ row. opening_seen row.now)) (sym c.in-Some.is) ∙ c.opening_of.ensures)
