use Rattle.pua_audit.proofs.Common.{ℕ, List, map, take, AreApartFrom, IsApart}
use Rattle.pua_policy.specs.declared.place.Place.TheVariants.{Slot}
use Rattle.pua_audit.proofs.table.spots.veiled_dirs.Given as goal

abbrev pub invariant-loop-place : goal.invariant-loop-place
invariant-loop-place l = (dir : ℕ) (name : List ℕ) → IsApart dir l.dirs.items →
    AreApartFrom (Slot dir name) (map (λ place. place.now) (take l.place-index l.places))
