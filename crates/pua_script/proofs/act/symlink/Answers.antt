use Rattle.pua_script.proofs.Common.{◌≡◌, option_map, Some, node_named, sym, ap, subst, ◌∙◌, asker_of, Symlink}
use Rattle.std.specs.Prelude.{Ok, Err, IfOk}
use Rattle.pua_calls.specs.declared.call.Call.TheVariants as call
use Rattle.pua_script.specs.Decide.{Decision, adding, decide_object, if_named, link_node, placing}
use Rattle.pua_script.specs.Judged.{on_judged, spot_now}
use Rattle.pua_script.specs.declared.granted.Granted.TheVariants as granted
use Rattle.pua_script.proofs.Editing.{at_spot}
use Rattle.pua_path.specs.Walks.{found_seen, founds_seen}
use Rattle.pua_path.specs.declared.found.Found.{Found}
use Rattle.pua_policy.specs.declared.answer.Refusal.TheVariants.{Failed}
use Rattle.pua_script.proofs.Acting.{acts}
use Rattle.pua_script.proofs.act.symlink.Goals as goal

pub returns-in-None-clause-exact : goal.returns-in-None-clause-exact
returns-in-None-clause-exact g c =
    let t = g.T.FileTree.content c.args.tree.now in
    let target = c.args.target.now in
    let object = found_seen c.in-Ok-judge_object.lent in
    let linked : Found → Decision = λ object. Ok (adding (link_node target) object) in
    let further = decide_object c.args.table.now t (asker_of c.args.process.now) call.Symlink c.args.path.now linked in
    acts c.args.table.now t c.args.process.now (Symlink target c.args.path.now) (Ok granted.NoChange)
    (ap (λ s. Ok (placing (link_node target) s (node_named object)))
    (ap (option_map spot_now) (sym c.in-None.is) ∙ c.spot_named.ensures)
    ∙ ap (λ r. if_named (founds_seen r) linked) (sym c.in-Ok-judge_object.is)
    ∙ sym (c.judge_object.ensures linked)
    ∙ ap (λ r. on_judged r (λ _. further)) (sym c.in-Ok.is) ∙ c.judge_target.ensures.exact further)
    _ _ c.answer-in-None.result c.answer-in-None.ensures.exact

pub returns-clause-exact : goal.returns-clause-exact
returns-clause-exact g c =
    let t = g.T.FileTree.content c.args.tree.now in
    let target = c.args.target.now in
    let object = found_seen c.in-Ok-judge_object.lent in
    let linked : Found → Decision = λ object. Ok (adding (link_node target) object) in
    let further = decide_object c.args.table.now t (asker_of c.args.process.now) call.Symlink c.args.path.now linked in
    acts c.args.table.now t c.args.process.now (Symlink target c.args.path.now) (Ok c.adding.result)
    (c.adding.ensures (asker_of c.args.process.now)
    ∙ ap (λ b. Ok (placing (link_node b) (Some (c.in-Some.spot.dir, c.name-name.result)) c.node_named-there.result))
    (subst (λ r. IfOk r (λ text. text.bytes ≡ target)) c.in-Ok.is c.judge_target.ensures.text)
    ∙ ap Ok (at_spot (placing (link_node target)) object c.in-Some.spot.dir c.in-Some.spot.name.bytes.now c.name-name.result
    c.node_named-there.result (ap (option_map spot_now) (sym c.in-Some.is) ∙ c.spot_named.ensures) c.name-name.ensures
    c.node_named-there.ensures)
    ∙ ap (λ r. if_named (founds_seen r) linked) (sym c.in-Ok-judge_object.is)
    ∙ sym (c.judge_object.ensures linked)
    ∙ ap (λ r. on_judged r (λ _. further)) (sym c.in-Ok.is) ∙ c.judge_target.ensures.exact further)
    _ _ c.answer-2.result c.answer-2.ensures.exact

pub returns-in-Err-judge_object-clause-exact : goal.returns-in-Err-judge_object-clause-exact
returns-in-Err-judge_object-clause-exact g c =
    let t = g.T.FileTree.content c.args.tree.now in
    let linked : Found → Decision = λ object. Ok (adding (link_node c.args.target.now) object) in
    let further = decide_object c.args.table.now t (asker_of c.args.process.now) call.Symlink c.args.path.now linked in
    acts c.args.table.now t c.args.process.now (Symlink c.args.target.now c.args.path.now) (Err (Failed c.in-Err-judge_object.errno))
    (ap (λ r. if_named (founds_seen r) linked) (sym c.in-Err-judge_object.is)
    ∙ sym (c.judge_object.ensures linked)
    ∙ ap (λ r. on_judged r (λ _. further)) (sym c.in-Ok.is) ∙ c.judge_target.ensures.exact further)
    _ _ c.answer-in-Err-judge_object.result c.answer-in-Err-judge_object.ensures.exact

pub returns-in-Err-clause-exact : goal.returns-in-Err-clause-exact
returns-in-Err-clause-exact g c =
    let t = g.T.FileTree.content c.args.tree.now in
    let further = decide_object c.args.table.now t (asker_of c.args.process.now) call.Symlink c.args.path.now
    (λ object. Ok (adding (link_node c.args.target.now) object)) in
    acts c.args.table.now t c.args.process.now (Symlink c.args.target.now c.args.path.now) (Err c.in-Err.refusal)
    (ap (λ r. on_judged r (λ _. further)) (sym c.in-Err.is) ∙ c.judge_target.ensures.exact further)
    _ _ c.answer.result c.answer.ensures.exact
