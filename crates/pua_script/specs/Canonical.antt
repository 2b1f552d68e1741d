-- The names of a text, in the form in which a kernel compares it with paths that it knows: as text, before any look-up.
use Rattle.std.specs.Prelude.{ℕ, Bool, not, ◌||◌, if◌then◌else◌, List, [], ◌∷◌, ◌==◌, drop, length, nat_lt, reverse}
use Rattle.std.specs.List.{slice_split}
use Rattle.pua_tree.specs.Names.{same_bytes}

-- a piece between slashes that adds no name: it has no byte, or is one dot
abbrev pub adds_none : List ℕ → Bool
adds_none piece = not (nat_lt 0 (length piece)) || same_bytes piece (46 ∷ [])

-- the names that are kept after a further piece, the last one first: `..` takes away the name before it, if there is one
abbrev pub kept_with : List (List ℕ) → List ℕ → List (List ℕ)
kept_with kept piece = if adds_none piece then kept else (if same_bytes piece (46 ∷ 46 ∷ []) then drop 1 kept else piece ∷ kept)

abbrev pub kept_names : List (List ℕ) → List (List ℕ) → List (List ℕ)
kept_names kept [] = kept
kept_names kept (piece ∷ pieces) = kept_names (kept_with kept piece) pieces

-- the names of a text, read from the root
abbrev pub canonical : List ℕ → List (List ℕ)
canonical text = reverse (kept_names [] (slice_split (λ b. b == 47) text))
