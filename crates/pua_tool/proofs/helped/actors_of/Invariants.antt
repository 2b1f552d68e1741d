use Rattle.pua_tool.proofs.Common.{◌≡◌, map}
use Rattle.std.proofs.Common.{take}
use Rattle.pua_tool.specs.BesideFound.{actor_seen, part_seen, silent_of}
use Rattle.pua_tool.proofs.helped.actors_of.Given as goal

-- those of the parts so far are there
abbrev pub invariant-loop-part : goal.invariant-loop-part
invariant-loop-part l = map actor_seen l.actors.items ≡ map (λ part. silent_of (part_seen part)) (take l.part-index l.parts)
