use Rattle.pua_script.proofs.Common.{sym, ap, ◌∙◌, asker_of, OnPath}
use Rattle.std.specs.Prelude.{Ok, Err}
use Rattle.pua_path.specs.Walks.{founds_seen}
use Rattle.pua_path.specs.declared.found.Found.{Found}
use Rattle.pua_policy.specs.declared.answer.Refusal.TheVariants.{Failed}
use Rattle.pua_script.specs.Decide.{Decision, change_by, if_named}
use Rattle.pua_script.proofs.Acting.{acts}
use Rattle.pua_script.proofs.act.look.Goals as goal

pub returns-in-Ok-clause-exact : goal.returns-in-Ok-clause-exact
returns-in-Ok-clause-exact g c = λ whole kind.
    let further : Found → Decision = λ object. Ok (change_by c.args.table.now c.args.call object) in
    acts c.args.table.now _ c.args.process.now (OnPath c.args.call c.args.path.now) (Ok c.looking-granted.result)
    (c.looking-granted.ensures kind (asker_of c.args.process.now)
    ∙ ap (λ r. if_named (founds_seen r) further) (sym c.in-Ok.is) ∙ sym (c.judge_object.ensures further)
    ∙ sym whole)
    _ _ c.answer.result c.answer.ensures.exact

pub returns-in-Err-clause-exact : goal.returns-in-Err-clause-exact
returns-in-Err-clause-exact g c = λ whole kind.
    let further : Found → Decision = λ object. Ok (change_by c.args.table.now c.args.call object) in
    acts c.args.table.now _ c.args.process.now (OnPath c.args.call c.args.path.now) (Err (Failed c.in-Err.errno))
    (ap (λ r. if_named (founds_seen r) further) (sym c.in-Err.is) ∙ sym (c.judge_object.ensures further)
    ∙ sym whole)
    _ _ c.answer-in-Err.result c.answer-in-Err.ensures.exact
