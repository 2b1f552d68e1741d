use Rattle.pua_since.proofs.Common.{◌≡◌, ◌++◌, map, take, veil_seen, with_number}
use Rattle.pua_since.proofs.veils.add_veils.Given as goal

abbrev pub invariant-loop-place : goal.invariant-loop-place
invariant-loop-place l =
    map veil_seen l.all.items ≡ map veil_seen l.fn.all.items ++ map (with_number l.number) (take l.place-index l.places)
