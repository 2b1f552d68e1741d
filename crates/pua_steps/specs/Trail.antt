-- What a walk does from a moment on: visits of letters, and the pairs that it gives, in their order.
use Rattle.std.specs.Prelude.{ℕ, zero, suc, ◌-◌, Bool, cond, List, [], ◌∷◌, ◌++◌, map, length, Option, Some, None, option_map, flat_map}
use Rattle.std.specs.Prelude.{filter_map}
use Rattle.pua_steps.specs.Calls.{calls_of}
use Rattle.pua_steps.specs.Graph.{Graph, Word, Pair}
use Rattle.pua_steps.specs.declared.state.State.{State}
use Rattle.pua_steps.specs.declared.visit.Visit.{Visit}

-- a visit of a letter, or a pair
abbrev pub TrailEvent : Type 0
TrailEvent = Option Pair

abbrev pub pairs_of : List TrailEvent → List Pair
pairs_of es = filter_map (λ (e : TrailEvent). e) es

-- a pair of a word for each of some calls
abbrev pub on_word : Word → List ℕ → List Pair
on_word word calls = map (λ call. (word, call)) calls

abbrev pub behind : ℕ → TrailEvent → TrailEvent
behind a e = option_map (λ (p : Pair). (a ∷ p.0, p.1)) e

-- the same after one letter more, and after the letters of a word
unfoldable pub under : ℕ → List TrailEvent → List TrailEvent
under a es = map (behind a) es

unfoldable pub under_all : Word → List TrailEvent → List TrailEvent
under_all [] es = es
under_all (a ∷ word) es = under a (under_all word es)

-- a pair for each call
unfoldable pub with_calls : List ℕ → List TrailEvent
with_calls [] = []
with_calls (call ∷ more) = Some ([], call) ∷ with_calls more

-- what comes after a state that is entered
abbrev pub if_live : Option State → (State → Bool) → (State → List TrailEvent) → List TrailEvent
if_live None live go = []
if_live (Some s) live go = cond (live s) (go s) []

-- a test of states, by how many letters may still come
abbrev pub Live : Type 0
Live = ℕ → State → Bool

-- the words that go on from a state by at most l letters, if it is live: letter by letter, a visit for each
unfoldable pub deeper : Graph → Live → ℕ → Option State → List TrailEvent
deeper g live zero o = []
deeper g live (suc l) o =
    if_live o (live (suc l)) (λ s. flat_map (λ v. None ∷ under v.letter (with_calls (calls_of v.calls) ++ deeper g live l v.behind))
    (g l s))

-- the words of some of the letters of a state
unfoldable pub branches : Graph → Live → ℕ → List Visit → List TrailEvent
branches g live l vs = flat_map (λ v. None ∷ under v.letter (with_calls (calls_of v.calls) ++ deeper g live l v.behind)) vs

-- what open states leave, by the letters that each has left, the deepest last. Each but the deepest has its letter in the word
unfoldable pub pending : Graph → Live → ℕ → ℕ → Word → List (List Visit) → List TrailEvent
pending g live limit depth word [] = []
pending g live limit depth [] (vs ∷ rests) = branches g live (limit - suc depth) vs
pending g live limit depth (a ∷ word) (vs ∷ rests) =
    under a (pending g live limit (suc depth) word rests) ++ branches g live (limit - suc depth) vs

-- what is still to be done: the calls of the word that are left, the words after it, and what the open states leave
unfoldable pub ahead : Graph → Live → ℕ → Word → List ℕ → Option State → List (List Visit) → List TrailEvent
ahead g live limit word left o rests =
    under_all word (with_calls left ++ deeper g live (limit - length word) o) ++ pending g live limit 0 word rests
