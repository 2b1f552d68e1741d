-- Words over a graph of states: where their letters lead, and which calls are allowed on them.
use Rattle.std.specs.Prelude.{ℕ, zero, suc, Bool, true, false, List, [], ◌∷◌, ◌++◌, map, Option, Some, None, flat_map}
use Rattle.pua_steps.specs.Calls.{calls_of}
use Rattle.pua_steps.specs.declared.state.State.{State}
use Rattle.pua_steps.specs.declared.visit.Visit.{Visit}

-- a word by the places of its letters in the alphabet, and a call by its number
abbrev pub Word : Type 0
Word = List ℕ

abbrev pub Pair : Type 0
Pair = Word × ℕ

-- what the letters of each state lead to, in the order of the letters, where at most so many letters may come after
-- them: a letter on which no call is allowed and from which no word goes on may be left out
abbrev pub Graph : Type 0
Graph = ℕ → State → List Visit

-- pairs after a letter

abbrev pub longer : ℕ → Pair → Pair
longer a p = (a ∷ p.0, p.1)

unfoldable pub cons : ℕ → List Pair → List Pair
cons a ps = map (longer a) ps

unfoldable pub alone : List ℕ → List Pair
alone cs = map (λ (c : ℕ). ([], c)) cs

abbrev pub from_state : Option State → (State → List Pair) → List Pair
from_state None go = []
from_state (Some s) go = go s

-- the pairs that are allowed on words that go on from a state by at most l letters, in order: a word's own, and then
-- those of its extensions
unfoldable pub below : Graph → ℕ → Option State → List Pair
below g zero o = []
below g (suc l) o = from_state o (λ s. flat_map (λ v. cons v.letter (alone (calls_of v.calls) ++ below g l v.behind)) (g l s))

-- those of some of the letters of a state
unfoldable pub rows : Graph → ℕ → List Visit → List Pair
rows g l vs = flat_map (λ v. cons v.letter (alone (calls_of v.calls) ++ below g l v.behind)) vs

-- all pairs that are allowed: the calls of the empty word are given, and the state in which the first letter stands
abbrev pub graph_reach : Graph → ℕ → ℕ → Option State → List Pair
graph_reach g limit calls base = alone (calls_of calls) ++ below g limit base

-- whether there is a pair
abbrev pub some_pair : List Pair → Bool
some_pair [] = false
some_pair (p ∷ ps) = true
