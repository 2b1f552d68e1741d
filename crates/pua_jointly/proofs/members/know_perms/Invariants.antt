use Rattle.pua_jointly.proofs.Common.{map, take}
use Rattle.pua_jointly.specs.JointMembers.{AreSmall, veil_now}
use Rattle.pua_jointly.proofs.members.know_perms.Given as goal

abbrev pub invariant-loop-veil : goal.invariant-loop-veil
invariant-loop-veil l = record { small : AreSmall (map veil_now (take l.veil-index l.veils)) }
