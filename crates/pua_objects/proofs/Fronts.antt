-- Fronts that lists have in common.
use Rattle.pua_objects.proofs.Common.{◌≡◌, ◌≤◌, ℕ, List, take, sym, ap, ◌∙◌}
use Rattle.std.proofs.lemmas.List.{take-take}

-- lists that have a front in common have each shorter one
pub less_same : {A : Type 0} (n m : ℕ) (xs ys : List A) → n ≤ m → take m xs ≡ take m ys → take n xs ≡ take n ys
less_same n m xs ys less same = sym (take-take n m xs less) ∙ ap (take n) same ∙ take-take n m ys less
