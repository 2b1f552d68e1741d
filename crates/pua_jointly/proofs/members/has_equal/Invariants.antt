use Rattle.pua_jointly.proofs.Common.{take}
use Rattle.std.specs.List.{Contains}
use Rattle.pua_jointly.specs.JointMembers.{states}
use Rattle.pua_jointly.proofs.members.has_equal.Given as goal

-- none so far is equal
abbrev pub invariant-loop-other : goal.invariant-loop-other
invariant-loop-other l = record { none : Contains (states (take l.other-index l.kept)) l.process → ⊥ }
