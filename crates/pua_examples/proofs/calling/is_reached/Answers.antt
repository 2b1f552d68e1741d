use Rattle.std.proofs.Common.{◌≡◌, ◌∙◌, [], None, Ok, ap, subst, nat_eq}
use Rattle.std.specs.List.{list_any}
use Rattle.pua_calls.specs.Calls.{call_number}
use Rattle.pua_audit.specs.Begin.{beginning}
use Rattle.pua_audit.specs.declared.base.Base.TheVariants.{Root}
use Rattle.pua_examples.proofs.calling.is_reached.Goals as goal

-- what is still to come when the audit begins is lent, over the probe's tree
pub returns-clause-reached : goal.returns-clause-reached
returns-clause-reached g c =
    let begun = c.in_ok-audit.ensures.begun in
    let over = subst (λ t. beginning t c.args.table.now c.args.process.now Root [] c.args.limit None ≡ Ok begun.0) c.new-probe.ensures.tree begun.1.0 in
    (begun.0, over, c.is_lent.ensures ∙ ap (list_any (λ pair. nat_eq (call_number pair.1) (call_number c.args.call))) begun.1.1)
