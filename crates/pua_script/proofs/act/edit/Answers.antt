use Rattle.pua_script.proofs.Common.{sym, ap, ◌∙◌, option_map, node_named, asker_of, OnPath, Some}
use Rattle.std.specs.Prelude.{Ok, Err}
use Rattle.pua_path.specs.Walks.{found_seen, founds_seen}
use Rattle.pua_path.specs.declared.found.Found.{Found}
use Rattle.pua_policy.specs.declared.answer.Refusal.TheVariants.{Failed}
use Rattle.pua_script.specs.Decide.{Decision, change_by, if_named}
use Rattle.pua_script.specs.Judged.{edit_by, spot_now}
use Rattle.pua_script.specs.declared.granted.Granted.TheVariants as granted
use Rattle.pua_script.proofs.Acting.{acts}
use Rattle.pua_script.proofs.Editing.{edits_by, nowhere, at_spot}
use Rattle.pua_script.proofs.act.edit.Goals as goal

pub returns-in-Err-clause-exact : goal.returns-in-Err-clause-exact
returns-in-Err-clause-exact g c = λ whole kind.
    let further : Found → Decision = λ object. Ok (change_by c.args.table.now c.args.call object) in
    acts c.args.table.now _ c.args.process.now (OnPath c.args.call c.args.path.now) (Err (Failed c.in-Err.errno))
    (ap (λ r. if_named (founds_seen r) further) (sym c.in-Err.is) ∙ sym (c.judge_object.ensures further)
    ∙ sym whole)
    _ _ c.answer.result c.answer.ensures.exact

pub returns-in-None-clause-exact : goal.returns-in-None-clause-exact
returns-in-None-clause-exact g c = λ whole kind.
    let further : Found → Decision = λ object. Ok (change_by c.args.table.now c.args.call object) in
    let object = found_seen c.in-Ok.lent in
    acts c.args.table.now _ c.args.process.now (OnPath c.args.call c.args.path.now) (Ok granted.NoChange)
    (ap Ok (sym (nowhere c.args.table.now.whose c.args.call (node_named object))
    ∙ ap (λ s. edit_by c.args.table.now.whose c.args.call s (node_named object)) (ap (option_map spot_now) (sym c.in-None.is) ∙ c.spot_named.ensures)
    ∙ edits_by c.args.table.now c.args.call object kind)
    ∙ ap (λ r. if_named (founds_seen r) further) (sym c.in-Ok.is) ∙ sym (c.judge_object.ensures further)
    ∙ sym whole)
    _ _ c.answer-in-None.result c.answer-in-None.ensures.exact

pub returns-clause-exact : goal.returns-clause-exact
returns-clause-exact g c = λ whole kind.
    let further : Found → Decision = λ object. Ok (change_by c.args.table.now c.args.call object) in
    let object = found_seen c.in-Ok.lent in
    acts c.args.table.now _ c.args.process.now (OnPath c.args.call c.args.path.now) (Ok c.editing.result)
    (c.editing.ensures (asker_of c.args.process.now)
    ∙ ap (λ whose. Ok (edit_by whose c.args.call (Some (c.in-Some.spot.dir, c.name-name.result)) c.node_named-there.result)) c.rules.ensures
    ∙ ap Ok (at_spot (edit_by c.args.table.now.whose c.args.call) object c.in-Some.spot.dir c.in-Some.spot.name.bytes.now c.name-name.result
    c.node_named-there.result (ap (option_map spot_now) (sym c.in-Some.is) ∙ c.spot_named.ensures) c.name-name.ensures
    c.node_named-there.ensures
    ∙ edits_by c.args.table.now c.args.call object kind)
    ∙ ap (λ r. if_named (founds_seen r) further) (sym c.in-Ok.is) ∙ sym (c.judge_object.ensures further)
    ∙ sym whole)
    _ _ c.answer-2.result c.answer-2.ensures.exact
