use Rattle.pua_objects.proofs.Common.{subst}
use Rattle.pua_objects.specs.Lines.{AreAllowed}
use Rattle.pua_policy.specs.declared.object.Object as seen
use Rattle.pua_objects.proofs.Lined.{others_lined, found_lined}
use Rattle.pua_objects.proofs.line.line_with.Goals as goal

pub returns-in-Others : goal.returns-in-Others
returns-in-Others c = λ t table h subject allowed on.
    let item = c.args.item.now in
    others_lined t table h subject item on _ _ c.in-Others.is (λ covered missing. c.line_of_others.ensures t table h _ item.cover
    (subst (λ (o : seen.Object). AreAllowed t table h item.cover o c.args.calls) missing allowed) covered)

pub returns-in_default : goal.returns-in_default
returns-in_default c = λ t table h subject allowed on.
    found_lined t table h subject c.args.item.now on _ c.in_default.not-Others (λ found covered seen. c.line_at.ensures t table h found
    c.args.item.now.cover allowed covered seen)
