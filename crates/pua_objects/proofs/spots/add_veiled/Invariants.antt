use Rattle.pua_objects.proofs.Common.{◌≡◌, map, take, ◌++◌, filter_map, spot_now, veil_spot, AreAtNames}
use Rattle.pua_objects.proofs.spots.add_veiled.Given as goal

abbrev pub invariant-loop-place : goal.invariant-loop-place
invariant-loop-place l = record {
  places : AreAtNames (map (λ place. place.now) (take l.place-index l.places));
  spots : map spot_now l.spots.items ≡ map spot_now l.fn.spots.items
      ++ filter_map veil_spot (map (λ place. place.now) (take l.place-index l.places));
}
