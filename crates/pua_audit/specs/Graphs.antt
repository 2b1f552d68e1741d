-- What it is for a graph of steps to stand for what a walk asks of a tree and a process, letter by letter.
use Rattle.std.specs.Prelude.{filter, ◌≡◌, ◌<◌, ◌≤◌, ◌==◌, ℕ, suc, Bool, true, false, cond, List, [], ◌∷◌, map, length, get_or, Option}
use Rattle.std.specs.Prelude.{None, option_map, IfSome, IsTrue, ⊤}
use Rattle.std.specs.List.{AllByRecursion}
use Rattle.pua_path.specs.Limits.{most_links}
use Rattle.pua_calls.specs.Calls.{calls}
use Rattle.pua_calls.specs.CallSets.{bit_of}
use Rattle.pua_calls.specs.declared.call.Call.{Call}
use Rattle.pua_tree.specs.Tree.{is_dir}
use Rattle.pua_audit.specs.Reach.{Word, Pair, Scope}
use Rattle.pua_audit.specs.Judge.{Judge, Start, Below, base_dir, is_open, judge_for, reach_along}
use Rattle.pua_audit.specs.Judge.{allowed_at}
use Rattle.pua_audit.specs.Laws.{IsAudited}
use Rattle.pua_audit.specs.Live.{live_states}
use Rattle.pua_audit.specs.Judge as named
use Rattle.pua_steps.specs.Calls.{has_call, calls_of}
use Rattle.pua_steps.specs.Graph as graph
use Rattle.pua_steps.specs.Reached.{live_count}
use Rattle.pua_steps.specs.declared.state.State.{State}
use Rattle.pua_steps.specs.declared.visit.Visit.{Visit}

-- the state in the tree that a state of the graph is, by the numbers of its directories
abbrev pub named_in : List ℕ → State → named.JudgeState
named_in names s = record { dir = get_or names s.dir 0; used = s.used }

-- a directory of the graph, and no more links than may be followed
pub record IsKnown (names : List ℕ) (s : State) : Type 0 where
  pub dir : s.dir < length names
  pub used : s.used ≤ most_links

-- a letter among visits
abbrev pub is_visited : List Visit → ℕ → Bool
is_visited [] i = false
is_visited (v ∷ vs) i = cond (v.letter == i) true (is_visited vs i)

abbrev pub RisingVisits : ℕ → ℕ → List Visit → Type 0
RisingVisits next letters [] = ⊤
RisingVisits next letters (v ∷ vs) = (next ≤ v.letter) × (v.letter < letters) × RisingVisits (suc v.letter) letters vs

-- a visit says which calls are allowed on its letter, and where it leads
pub record IsRight (w : Judge) (letters : List (List ℕ)) (names : List ℕ) (s : State) (v : Visit) : Type 0 where
  pub calls : map bit_of (allowed_at w (Below (named_in names s) (get_or letters v.letter []))) ≡ calls_of v.calls
  pub behind : w.step (Below (named_in names s) (get_or letters v.letter [])) ≡ option_map (named_in names) v.behind

-- on a letter without a visit no call is allowed, and no word goes on from it
pub record IsMissing (w : Judge) (letters : List (List ℕ)) (names : List ℕ) (s : State) (i : ℕ) : Type 0 where
  pub calls : allowed_at w (Below (named_in names s) (get_or letters i [])) ≡ []
  pub behind : w.step (Below (named_in names s) (get_or letters i [])) ≡ None

-- each state of the graph has the visits that the judge gives it, and they lead to such states
pub record HasJudgedVisits (w : Judge) (letters : List (List ℕ)) (names : List ℕ) (g : State → List Visit) (In : State →
    Type 0) (s : State) : Type 0 where
  pub rises : RisingVisits 0 (length letters) (g s)
  pub right : AllByRecursion (λ v. IsRight w letters names s v) (g s)
  pub missing : (i : ℕ) → i < length letters → is_visited (g s) i ≡ false → IsMissing w letters names s i
  pub closed : AllByRecursion (λ v. IfSome v.behind In) (g s)

-- the graph stands for the judge: the calls of the empty word, the state of the first letter, and all states from there
pub record AnswersAsJudge (w : Judge) (letters : List (List ℕ)) (names : List ℕ) (g : State →
    List Visit) (set : ℕ) (from : Option State) (In : State → Type 0) : Type 0 where
  pub calls : map bit_of (allowed_at w Start) ≡ calls_of set
  pub base : w.step Start ≡ option_map (named_in names) from
  pub begins : IfSome from In
  pub states : (s : State) → In s → HasJudgedVisits w letters names g In s

-- pairs by the numbers of their calls, and those of the graph by their letters
abbrev pub pair_in_numbers : Pair → Word × ℕ
pair_in_numbers p = (p.0, bit_of p.1)

abbrev pub pair_in_letters : List (List ℕ) → graph.Pair → Word × ℕ
pair_in_letters letters p = (map (λ i. get_or letters i []) p.0, p.1)

-- the pairs of the graph are those that the judge allows, in the same order
abbrev pub GraphsReach : Type 0
GraphsReach = (w : Judge) (letters : List (List ℕ)) (names : List ℕ) (g : State →
    List Visit) (calls : ℕ) (base : Option State) (limit : ℕ) → AnswersAsJudge w letters names g calls base (IsKnown names)
    → map pair_in_numbers (reach_along w letters limit) ≡ map (pair_in_letters letters) (graph.graph_reach (λ _. g) limit calls base)

-- a set whose bits are a test of calls lists the calls that pass
abbrev pub MasksList : Type 0
MasksList = (f : Call → Bool) (mask : ℕ) → ((c : Call) → has_call mask (bit_of c) ≡ f c) → map bit_of (filter f calls) ≡ calls_of mask

-- numbers of directories, none of them twice
abbrev pub AreApart : List ℕ → Type 0
AreApart names = (i j : ℕ) → i < length names → j < length names → get_or names i 0 ≡ get_or names j 0 → i ≡ j

-- there are as many live states as a graph that stands for the judge has, and none where nothing can be reached
pub record LiveStatesCount : Type 0 where
  pub counted : (s : Scope) (names : List ℕ) (g : State → List Visit) (set : ℕ) (base : Option State) → IsAudited s →
      IsTrue (is_dir s.tree (base_dir s.base s.process)) → AreApart names
      → AnswersAsJudge (judge_for s) s.alphabet names g set base (IsKnown names) →
      length (live_states s) ≡ live_count (λ _. g) (length names) s.limit base s.limit
  pub none : (s : Scope) → IsAudited s → is_open s ≡ false → length (live_states s) ≡ 0
