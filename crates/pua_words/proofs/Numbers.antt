-- Numbers between commas.
use Rattle.std.proofs.Common.{◌≡◌, ◌∙◌, ◌<◌, arith, ℕ, List, Option, Some, None, ap, get_or, length, map, sym}
use Rattle.std.proofs.lemmas.List.{get_or-map, length-map}
use Rattle.pua_tree.proofs.ForCallers.{None≢Some}

-- pieces of which one is no number are not those of numbers
pub none_among : (f : List ℕ → Option ℕ) (pieces : List (List ℕ)) (n : ℕ) (piece : List ℕ) → (n < length pieces) × (piece ≡ get_or pieces n piece) →
    f piece ≡ None → (numbers : List ℕ) → map f pieces ≡ map Some numbers → ⊥
none_among f pieces n piece at none numbers all =
    let within : n < length numbers = omega (arith, at.0, ap length all, length-map pieces f, length-map numbers (λ k. Some k)) in
    let first : f piece ≡ get_or (map f pieces) n None = ap f at.1 ∙ sym (get_or-map f pieces n piece None at.0) in
    let second : get_or (map Some numbers) n None ≡ Some (get_or numbers n 0) = get_or-map Some numbers n 0 None within in
    None≢Some (get_or numbers n 0) (sym none ∙ first ∙ ap (λ (xs : List (Option ℕ)). get_or xs n None) all ∙ second)
