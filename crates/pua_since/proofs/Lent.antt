-- The veils of processes, one process after another.
use Rattle.pua_since.proofs.Common.{◌≡◌, ◌<◌, ◌+◌, ◌++◌, ℕ, List, [], ◌∷◌, map, flat_map, take, get_or, length, refl, sym, ap, ◌∙◌, Some}
use Rattle.pua_since.proofs.Common.{Bor, Place, WorldState, veils_at, with_number}
use Rattle.std.proofs.lemmas.Grind.{flat_map-append}
use Rattle.std.proofs.lemmas.List.{take_more, append-nil}
use Rattle.pua_policy.specs.States.{ProcessState}
use Rattle.pua_script.specs.Worlds.{process_at}
use Rattle.pua_since.specs.Dates.{veils_of}

-- one element more
pub flat_more : {A B : Type 0} (f : A → List B) (xs : List A) (k : ℕ) (x : A) → k < length xs →
    flat_map f (take (k + 1) xs) ≡ flat_map f (take k xs) ++ f (get_or xs k x)
flat_more f xs k x less =
    ap (flat_map f) (take_more xs k x less) ∙ flat_map-append f (take k xs) (get_or xs k x ∷ []) ∙
    ap (λ ys. flat_map f (take k xs) ++ ys) (append-nil (f (get_or xs k x)))

lent_numbered : (number : ℕ) (lent : List (Bor Place)) →
    map (with_number number) lent ≡ map {B = ℕ × Place} (λ place. (number, place)) (map (λ place. place.now) lent)
lent_numbered number [] = refl
lent_numbered number (place ∷ lent) = ap (λ more. (number, place.now) ∷ more) (lent_numbered number lent)

kept_numbered : (number : ℕ) (veils : List (Place × ℕ)) → map {B = ℕ × Place} (λ place. (number, place)) (map (λ veil. veil.0) veils)
    ≡ map {B = ℕ × Place} (λ veil. (number, veil.0)) veils
kept_numbered number [] = refl
kept_numbered number (veil ∷ veils) = ap (λ more. (number, veil.0) ∷ more) (kept_numbered number veils)

-- of a process that was made
pub lent_at : (s : WorldState) (number : ℕ) (state : ProcessState) (lent : List (Bor Place)) → process_at s number ≡ Some state →
    map (λ place. place.now) lent ≡ map (λ veil. veil.0) state.veils
    → map (with_number number) lent ≡ veils_at s number
lent_at s number state lent made are =
    lent_numbered number lent ∙ ap (map {B = ℕ × Place} (λ place. (number, place))) are ∙ kept_numbered number state.veils ∙
    sym (ap (veils_of number) made)
