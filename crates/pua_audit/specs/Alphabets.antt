-- Letters among others that rise, and where they stand.
use Rattle.std.specs.Prelude.{◌≡◌, ◌<◌, ◌≤◌, ℕ, List, [], ◌∷◌, length, get_or, None, Result, MatchResult, find}
use Rattle.std.specs.List.{insert}
use Rattle.pua_tree.specs.Names.{same_bytes}
use Rattle.pua_tree.specs.Tree.{with_name}

-- names, each at its place among others that rise by bytes
abbrev pub with_names : List (List ℕ) → List (List ℕ) → List (List ℕ)
with_names [] others = others
with_names (name ∷ names) others = with_name name (with_names names others)

-- the place of a letter among others, or the place at which it would stand
abbrev pub IsPlaced : List (List ℕ) → List ℕ → Result ℕ ℕ → Type 0
IsPlaced letters letter result =
    MatchResult result (λ i. (i < length letters) × (get_or letters i [] ≡ letter))
    (λ i. (i ≤ length letters) × (with_name letter letters ≡ insert letters i letter) × (find (same_bytes letter) letters ≡ None))
