-- The test on places that maps use is the definition's.
use Rattle.pua_policy.proofs.Common.{◌≡◌, refl, ghosts, Place, Dir, same_place}
use Rattle.pua_policy.specs.declared.place.Place.TheVariants.{Slot}

pub same_place-eq : (a b : Place) → ghosts.eq a b ≡ same_place a b
same_place-eq (Dir a) (Dir b) = refl
same_place-eq (Slot a n) (Slot b m) = refl
same_place-eq (Dir a) (Slot b m) = refl
same_place-eq (Slot a n) (Dir b) = refl
