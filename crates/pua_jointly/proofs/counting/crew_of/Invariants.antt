use Rattle.pua_jointly.proofs.Common.{◌≡◌, flat_map, take}
use Rattle.pua_jointly.specs.JointMembers.{states}
use Rattle.pua_jointly.specs.JointPrograms.{acting_now}
use Rattle.pua_jointly.proofs.counting.crew_of.Given as goal

-- those so far act
abbrev pub invariant-loop-actor : goal.invariant-loop-actor
invariant-loop-actor l = record { crew : states l.crew.items ≡ flat_map acting_now (take l.actor-index l.actors) }
