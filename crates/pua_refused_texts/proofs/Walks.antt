-- Sets of one call, and tables of one pair.
use Rattle.std.proofs.Common.{◌≡◌, ℕ, List, [], ◌∷◌, ◌++◌, Some, None, refl, sym, ap, ◌∙◌, ◌^◌, ◌-◌}
use Rattle.std.specs.Prelude.{flat_map}
use Rattle.pua_steps.specs.Calls.{calls_of}
use Rattle.pua_steps.specs.Graph.{Graph, Pair, Word, alone, below, cons, graph_reach}
use Rattle.pua_steps.specs.Limits.{call_count}
use Rattle.pua_steps.specs.Table.{entries_at, gap, graph_of, missing_at, missing_visit, visits_from}
use Rattle.pua_steps.specs.Trail.{on_word}
use Rattle.pua_steps.specs.declared.state.State.{State}
use Rattle.pua_steps.specs.declared.steps.Steps.{Steps}
use Rattle.pua_steps.specs.declared.visit.Visit.{Visit}

pub first_call : calls_of 1 ≡ 0 ∷ []
unfolding calls_of
first_call = refl

pub last_call : calls_of (2 ^ (call_count - 1)) ≡ (call_count - 1) ∷ []
unfolding calls_of
last_call = refl

-- words of no letters, and one call
pub one_pair : (g : Graph) → graph_reach g 0 1 None ≡ ([], 0) ∷ []
unfolding calls_of alone below
one_pair g = refl

-- nothing is left after the one call of the empty word
pub none_left : (g : Graph) (word : Word) (calls : ℕ) (all more : List Pair) → calls ≡ 1 → all ≡ graph_reach g 0 1 None →
    all ≡ on_word word (calls_of calls) ++ more → more ≡ []
none_left g word calls all more one whole parts =
    let taken : on_word word (calls_of calls) ≡ (word, 0) ∷ [] = ap (λ n. on_word word (calls_of n)) one ∙ ap (on_word word) first_call in
    let same : ([], 0) ∷ [] ≡ (word, 0) ∷ more = sym (one_pair g) ∙ sym whole ∙ parts ∙ ap (λ ps. ps ++ more) taken in
    cc

-- one letter without an entry, on which one call is allowed: what that letter leads to, and the pairs behind it

abbrev base : State
base = record { dir = 0; used = 0 }

one_visit : (t : Steps) → t.letters ≡ 1 → entries_at t 0 ≡ [] → missing_at t 0 ≡ 1 → graph_of t 0 base ≡ missing_visit 1 0 ∷ []
unfolding gap graph_of visits_from
one_visit t letters entries missing = rw letters (rw entries (rw missing refl))

abbrev behind : Graph → List Visit → List Pair
behind g visits = alone (calls_of 0) ++ flat_map (λ v. cons v.letter (alone (calls_of v.calls) ++ below g 0 v.behind)) visits

by_visits : (g : Graph) (visits : List Visit) → g 0 base ≡ visits → graph_reach g 1 0 (Some base) ≡ behind g visits
unfolding below
by_visits g visits is = ap (behind g) is

by_one : (g : Graph) → behind g (missing_visit 1 0 ∷ []) ≡ (0 ∷ [], 0) ∷ []
unfolding calls_of alone below cons
by_one g = refl

pub one_letter : (t : Steps) → t.letters ≡ 1 → entries_at t 0 ≡ [] → missing_at t 0 ≡ 1 →
    graph_reach (graph_of t) 1 0 (Some base) ≡ (0 ∷ [], 0) ∷ []
one_letter t letters entries missing =
    by_visits (graph_of t) (missing_visit 1 0 ∷ []) (one_visit t letters entries missing) ∙ by_one (graph_of t)
