-- What a list of places gives that is lent.
use Rattle.pua_ever.proofs.Common.{◌≡◌, ◌||◌, Bool, List, list_any, [], ◌∷◌, map, refl, ap, subst, Option, Result, filter_map}
use Rattle.std.specs.Prelude.{IfOk}
use Rattle.std.specs.List.{cons_option}
use Rattle.std.specs.Borrow.{Bor}

-- a test of what things are mapped to
pub any_mapped : {A B : Type 0} (f : A → B) (p : B → Bool) (xs : List A) → list_any (λ x. p (f x)) xs ≡ list_any p (map f xs)
any_mapped f p [] = refl
any_mapped f p (x ∷ xs) = ap (λ b. p (f x) || b) (any_mapped f p xs)

same_picked : {A B : Type 0} (f : A → Option B) (ps : List (Bor A)) → filter_map (λ p. f p.now) ps ≡ filter_map f (map (λ p. p.now) ps)
same_picked f [] = refl
same_picked f (p ∷ ps) = ap (cons_option (f p.now)) (same_picked f ps)

pub picked_now : {A B V E : Type 0} (f : A → Option B) (ps : List (Bor A)) (r : Result V E) (items : V → List B) →
    IfOk r (λ v. items v ≡ filter_map (λ p. f p.now) ps) → IfOk r (λ v. items v ≡ filter_map f (map (λ p. p.now) ps))
picked_now f ps r items = subst (λ xs. IfOk r (λ v. items v ≡ xs)) (same_picked f ps)
