use Rattle.pua_why.proofs.Common.{rules, ap, ◌∙◌, text_fault, adding, link_node, unpromised_fault}
use Rattle.pua_policy.specs.Reasons.{promising}
use Rattle.pua_why.proofs.Needing.{promises_passed, target_passed}
use Rattle.pua_why.proofs.checks.symlink_fault.Goals as goal

pub returns : goal.returns
returns g c =
    promises_passed c.promises_fault-fault.result c.object_fault.result _ _ (search rules)
    (c.promises_fault-fault.ensures ∙ ap (λ sets. unpromised_fault (promising c.args.process.now sets)) c.alternatives.ensures)
    (target_passed c.object_fault.result (text_fault c.args.target.now) _ c.in_default.ensures
    (c.object_fault.ensures (adding (link_node c.args.target.now))))
