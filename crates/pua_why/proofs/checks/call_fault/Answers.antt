use Rattle.pua_why.proofs.Common.{rules, ap, ◌∙◌, change_by, unpromised_fault}
use Rattle.pua_policy.specs.Reasons.{promising}
use Rattle.pua_why.proofs.Needing.{promises_passed}
use Rattle.pua_why.proofs.checks.call_fault.Goals as goal

pub returns : goal.returns
returns g c =
    promises_passed c.promises_fault-fault.result c.object_fault.result _ _ (search rules)
    (c.promises_fault-fault.ensures ∙ ap (λ sets. unpromised_fault (promising c.args.process.now sets)) c.alternatives.ensures)
    (c.object_fault.ensures (change_by c.args.table.now c.args.call))
