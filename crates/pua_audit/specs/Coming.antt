-- The pairs that a walk over a table of steps gives.
use Rattle.std.specs.Prelude.{◌≡◌, ◌≤◌, ◌<◌, ℕ, suc, ◌*◌, List, [], ◌∷◌, map, length, get_or, Option, Some, None, MatchOption, vec_capacity}
use Rattle.std.specs.List.{AllByRecursion}
use Rattle.pua_calls.specs.CallSets.{bit_of}
use Rattle.pua_calls.specs.Calls.{calls}
use Rattle.pua_calls.specs.declared.call.Call.{Call}
use Rattle.pua_calls.specs.declared.call.Call.TheVariants.{Stat}
use Rattle.pua_audit.specs.Reach.{Word, Pair}
use Rattle.pua_audit.specs.Begin.{longest}
use Rattle.pua_audit.specs.Ready.{word_of, IsSound}
use Rattle.pua_audit.specs.WordPaths.{IsPathAlong, IsPathOf}
use Rattle.pua_audit.specs.declared.pairs.Pairs.{Pairs}
use Rattle.pua_audit.specs.declared.resume_text.Resumption.{Resumption}
use Rattle.pua_steps.specs.Calls.{calls_of}
use Rattle.pua_steps.specs.Graph as graph
use Rattle.pua_steps.specs.Order as order
use Rattle.pua_steps.specs.Ready as steps
use Rattle.pua_steps.specs.Trail.{pairs_of}
use Rattle.pua_steps.specs.Within.{IsPair}

-- the call of a number, from 0 on
abbrev pub call_at : ℕ → Call
call_at n = get_or calls n Stat

-- the calls of a set of numbers, in their order
abbrev pub calls_at : ℕ → List Call
calls_at set = map call_at (calls_of set)

-- a pair of a word for each of some calls
abbrev pub with_word : Word → List Call → List Pair
with_word word calls = map (λ call. (word, call)) calls

-- the pair that places of the alphabet and a number are
abbrev pub pair_at : List (List ℕ) → graph.Pair → Pair
pair_at letters p = (word_of letters p.0, call_at p.1)

abbrev pub pairs_at : List (List ℕ) → List graph.Pair → List Pair
pairs_at letters ps = map (pair_at letters) ps

-- those that come after a pair, or all of them
abbrev pub pairs_resumed : Option Resumption → List graph.Pair → List graph.Pair
pairs_resumed None ps = ps
pairs_resumed (Some r) ps = order.pairs_after (r.word.items, bit_of r.call) ps

abbrev pub walk_word : Pairs → Word
walk_word a = word_of a.terms.letters a.walk.word.items

abbrev pub to_come : Pairs → List Pair
to_come a = pairs_at a.terms.letters (pairs_of (steps.trail a.walk))

-- the walk is one over a table of these letters, with room for the path of each word
pub record AreReady (a : Pairs) : Type 0 where
  pub sound : IsSound a.terms
  pub walk : steps.IsReady a.walk
  pub limit : a.walk.limit ≡ a.terms.limit
  pub letters : a.walk.tables.steps.letters ≡ length a.terms.letters
  pub pairs : AllByRecursion (λ p. IsPair (length a.terms.letters) p) (pairs_of (steps.trail a.walk))
  pub path : IsPathAlong a.terms.letters a.walk.word.items a.path
  pub bytes : a.terms.limit * suc (longest a.terms.letters) ≤ vec_capacity a.path.bytes
  pub starts : a.terms.limit ≤ vec_capacity a.path.starts

-- a line is the first pair that is still to come, by the path of its word
pub record IsLine (old : Pairs) (call : Call) (new : Pairs) : Type 0 where
  pub next : to_come old ≡ (walk_word new, call) ∷ to_come new
  pub path : IsPathOf (walk_word new) new.path
  pub within : length new.walk.word.items ≤ new.terms.limit
  pub known : AllByRecursion (λ i. i < length new.terms.letters) new.walk.word.items

abbrev pub IsNextCall : Pairs → Option Call → Pairs → Type 0
IsNextCall old result new = MatchOption result ((to_come old ≡ []) × (to_come new ≡ [])) (λ call. IsLine old call new)
