use Rattle.pua_audit.proofs.Common.{◌<◌, ℕ, [], map, take, length, get_or, AreApartFrom, AreAtLetters, IsUnmarked}
use Rattle.pua_policy.specs.declared.place.Place.TheVariants.{Slot}
use Rattle.pua_audit.proofs.table.placed.Places.add_veils.Given as goal

abbrev pub invariant-loop-place : goal.invariant-loop-place
invariant-loop-place l = record {
  within : AreAtLetters l.self l.fn.spots.items → AreAtLetters l.self l.spots.items;
  places : (dir letter : ℕ) → letter < length l.self → IsUnmarked dir letter l.spots.items →
      AreApartFrom (Slot dir (get_or l.self letter [])) (map (λ place. place.now) (take l.place-index l.places));
  others : (dir letter : ℕ) → IsUnmarked dir letter l.spots.items → IsUnmarked dir letter l.fn.spots.items;
}
