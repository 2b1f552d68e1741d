use Rattle.pua_since.proofs.Common.{◌≡◌, map, take, flat_map, veil_seen, veils_at}
use Rattle.pua_since.proofs.veils.veils_of.Given as goal

abbrev pub invariant-loop-number : goal.invariant-loop-number
invariant-loop-number g l = map veil_seen l.all.items ≡ flat_map (veils_at l.world) (take l.number-index l.numbers)
