-- The walk over a table of steps begins with the reach before it.
use Rattle.pua_audit.proofs.Common.{ℕ, zero, suc, [], None, ◌*◌, ◌<◌, ◌≤◌, ◌≡◌, List, Option, Some, refl, ap, arith, ◌∙◌, map, length}
use Rattle.pua_audit.proofs.Common.{get_or, bit_of, Call, IsTrue, is_dir, Scope, Judge, Start, base_dir, judge_for, reach_along, IsAudited}
use Rattle.pua_audit.proofs.Common.{live_states, allowed_at, AreApart, IsKnown, AnswersAsJudge, pair_in_numbers, pair_in_letters, IsTableOf}
use Rattle.pua_audit.proofs.Common.{mul-le, has_call, calls_of, live_count, State, Steps, IfSome, AllByRecursion, AreLetters, subst, sym}
use Rattle.pua_audit.specs.declared.resume_text.Resumption.{Resumption}
use Rattle.pua_audit.proofs.Leading.{masks_list}
use Rattle.pua_audit.proofs.LiveStates.{live_states_count}
use Rattle.pua_audit.proofs.Refined.{graphs_reach}
use Rattle.pua_audit.proofs.Tabled.{table_stands}
use Rattle.pua_steps.specs.Graph as graph
use Rattle.pua_steps.specs.Graph.{alone, below}
use Rattle.pua_steps.specs.Table.{graph_of}

module _ (w : Judge) (letters : List (List ℕ)) (names : List ℕ) (t : Steps) (is : IsTableOf w letters names t) (some : 0 < length names)
    (set : ℕ) (own : (call : Call) → has_call set (bit_of call) ≡ w.own Start call)
    (first : w.step Start ≡ Some (record { dir = get_or names 0 0; used = 0 })) where
  abbrev base : Option State
  base = Some (record { dir = 0; used = 0 })

  listed : map bit_of (allowed_at w Start) ≡ calls_of set
  unfolding allowed_at
  listed = masks_list (w.own Start) set own

  pub begun_stands : AnswersAsJudge w letters names (graph_of t 0) set base (IsKnown names)
  begun_stands = record
      { calls = listed; base = first; begins = record { dir = some; used = omega arith }; states = table_stands w letters names t is }

  one_graph : (λ (l : ℕ). graph_of t 0) ≡ graph_of t
  unfolding graph_of
  one_graph = refl

  pub begun_reach : (limit : ℕ) →
      map pair_in_numbers (reach_along w letters limit) ≡ map (pair_in_letters letters) (graph.graph_reach (graph_of t) limit set base)
  begun_reach limit = graphs_reach w letters names (graph_of t 0) set base limit begun_stands ∙
      ap (λ g. map (pair_in_letters letters) (graph.graph_reach g limit set base)) one_graph

-- so are its live states
module _ (s : Scope) (names : List ℕ) (t : Steps) (is : IsTableOf (judge_for s) s.alphabet names t) (some : 0 < length names) (set : ℕ)
    (own : (call : Call) → has_call set (bit_of call) ≡ (judge_for s).own Start call)
    (first : (judge_for s).step Start ≡ Some (record { dir = get_or names 0 0; used = 0 })) (audited : IsAudited s)
    (alive : IsTrue (is_dir s.tree (base_dir s.base s.process))) (apart : AreApart names) where
  pub begun_live : length (live_states s) ≡ live_count (graph_of t) (length names) s.limit (Some (record { dir = 0; used = 0 })) s.limit
  begun_live =
      live_states_count.counted s names (graph_of t 0) set (Some (record { dir = 0; used = 0 })) audited alive apart
      (begun_stands (judge_for s) s.alphabet names t is some set own first)
      ∙ ap (λ g. live_count g (length names) s.limit (Some (record { dir = 0; used = 0 })) s.limit)
      (one_graph (judge_for s) s.alphabet names t is some set own first)

pub table_fits : (limit n : ℕ) → limit ≤ 16 → n ≤ 4294967296 → suc limit * n < 18446744073709551616
table_fits limit n low few = let most = mul-le (suc limit) n 17 4294967296 (omega (arith, low)) few in omega (arith, most)

-- without calls and without a first directory there is no pair
pub none_reach : (g : graph.Graph) (limit : ℕ) → graph.graph_reach g limit 0 None ≡ []
unfolding alone below calls_of
none_reach g zero = refl
none_reach g (suc limit) = refl

-- the places of a word are of the letters of a table
pub known_below : (letters : List (List ℕ)) (limit n : ℕ) (o : Option Resumption) → n ≡ length letters →
    IfSome o (λ r. AreLetters letters limit r.word.items) → IfSome o (λ r. AllByRecursion (λ letter. letter < n) r.word.items)
known_below letters limit n None same h = tt
known_below letters limit n (Some r) same h = subst (λ k. AllByRecursion (λ letter. letter < k) r.word.items) (sym same) h.there
