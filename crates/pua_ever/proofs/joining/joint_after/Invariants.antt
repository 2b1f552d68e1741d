use Rattle.pua_ever.proofs.Common.{◌≡◌, map}
use Rattle.std.proofs.Common.{drop}
use Rattle.pua_ever.specs.Joints.{joint_told}
use Rattle.pua_ever.specs.Together.{joint_after}
use Rattle.pua_ever.proofs.joining.joint_after.Given as goal

-- those so far are one, and the others are still to come
abbrev pub invariant-loop-process : goal.invariant-loop-process
invariant-loop-process l = joint_after l.table (joint_told l.joint) (map (λ process. process.now) (drop l.process-index l.more))
    ≡ joint_after l.table (joint_told l.fn.joint) (map (λ process. process.now) l.more)
