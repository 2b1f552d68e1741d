-- The order of pairs, and where a letter stands among those of a state.
use Rattle.std.specs.Prelude.{◌≡◌, ◌<◌, ℕ, Bool, false, cond, List, ◌∷◌, ◌++◌, None, filter}
use Rattle.std.specs.List.{AllByRecursion}
use Rattle.std.specs.declared.cmp.Ordering.{Ordering}
use Rattle.std.specs.Ordering.{nat_cmp, ordering_then, is_lt}
use Rattle.std.specs.Cmp.Lexicographic.{slice_cmp}
use Rattle.pua_steps.specs.Graph.{Pair}
use Rattle.pua_steps.specs.declared.visit.Visit.{Visit}

-- by the letters of the words, a word before its extensions, and then by the calls
abbrev pub pair_cmp : Pair → Pair → Ordering
pair_cmp p q = ordering_then (slice_cmp nat_cmp p.0 q.0) (nat_cmp p.1 q.1)

-- whether the second pair comes after the first
abbrev pub comes_after : Pair → Pair → Bool
comes_after p q = is_lt (pair_cmp p q)

-- those that come after a pair
abbrev pub pairs_after : Pair → List Pair → List Pair
pairs_after p ps = filter (comes_after p) ps

-- the visits of the letters before one, of the letter itself, if there is one, and of those after it. Where there is
-- none, nothing is allowed on the letter and no word goes on from it
pub record IsSplit (a : ℕ) (all : List Visit) (x : Visit) (after : List Visit) : Type 0 where
  pub front : List Visit
  pub present : Bool
  pub parts : all ≡ front ++ cond present (x ∷ after) after
  pub low : AllByRecursion (λ y. y.letter < a) front
  pub high : AllByRecursion (λ y. a < y.letter) after
  pub letter : x.letter ≡ a
  pub absent : present ≡ false → (x.calls ≡ 0) × (x.behind ≡ None)
