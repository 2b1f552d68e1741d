use Rattle.pua_jointly.proofs.Common.{◌≡◌, flat_map, map, take, veils}
use Rattle.pua_jointly.specs.JointMembers.{states, veil_now}
use Rattle.pua_jointly.proofs.members.all_veils.Given as goal

abbrev pub invariant-loop-process : goal.invariant-loop-process
invariant-loop-process l = record { told : map veil_now l.veils.items ≡ flat_map veils (states (take l.process-index l.members)) }
