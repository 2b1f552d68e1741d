use Rattle.pua_jointly.proofs.Common.{◌≡◌, map}
use Rattle.std.proofs.Common.{drop}
use Rattle.pua_jointly.specs.JointPrograms.{acting_of, worse, worst}
use Rattle.pua_jointly.proofs.counting.worst.Given as goal

-- what those so far say, with what the others say, is what all of them say
abbrev pub invariant-loop-actor : goal.invariant-loop-actor
invariant-loop-actor l = worse l.all (worst (map acting_of (drop l.actor-index l.actors))) ≡ worst (map acting_of l.actors)
