use Rattle.pua_jointly.proofs.Common.{◌∙◌, ap, empty_tree, IsMissing, refl, sym}
use Rattle.pua_jointly.specs.JointCalls.{free_allows}
use Rattle.pua_jointly.proofs.joint_calls.calls_on_free.Goals as goal

pub returns-in-Some : goal.returns-in-Some
returns-in-Some c = λ call.
    c.allowed.ensures empty_tree IsMissing refl call
    ∙ sym (ap (λ o. free_allows c.args.table.now c.args.of.now.process.now o call) (sym c.kept.ensures.state ∙ c.in-Some.is))
