-- Where words have no letter, the empty one is the only one: its calls are the reach, and no state is live.
use Rattle.pua_audit.proofs.Common.{ℕ, zero, ◌≡◌, List, [], ◌∷◌, ◌++◌, None, Bool, true, false, cond, refl, ap, sym, subst, arith, ◌∙◌}
use Rattle.pua_audit.proofs.Common.{map, length, flat_map, filter, filter_map, bit_of, calls, Call, has_call, Judge, Start, Pair, Scope}
use Rattle.pua_audit.proofs.Common.{allowed_at, calls_of, pairs, reach_along, is_reached, shorter, same_stage, unique_keys, stage_after}
use Rattle.pua_audit.proofs.Common.{live_states, IsKnown, AnswersAsJudge, pair_in_numbers, pair_in_letters, State, Visit}
use Rattle.pua_audit.proofs.Leading.{masks_list}
use Rattle.pua_audit.proofs.Refined.{graphs_reach}
use Rattle.pua_steps.specs.Graph as graph
use Rattle.pua_steps.specs.Graph.{below}

module _ (w : Judge) (letters : List (List ℕ)) (set : ℕ) (own : (call : Call) → has_call set (bit_of call) ≡ w.own Start call) where
  -- the same calls, and no word goes on
  stopped : Judge
  stopped = record { step = λ _. None; own = w.own }

  no_visits : State → List Visit
  no_visits s = []

  listed : map bit_of (allowed_at stopped Start) ≡ calls_of set
  unfolding allowed_at stopped
  listed = masks_list (w.own Start) set own

  stands : AnswersAsJudge stopped letters [] no_visits set None (IsKnown [])
  unfolding stopped
  stands = record { calls = listed; base = refl; begins = tt; states = λ s is. absurd (omega (arith, is.dir)) }

  same_pairs : reach_along w letters zero ≡ reach_along stopped letters zero
  unfolding stopped
  same_pairs = refl

  at_zero : (g : graph.Graph) →
      map pair_in_numbers (reach_along w letters zero) ≡ map (pair_in_letters letters) (graph.graph_reach g zero set None)
  unfolding below
  at_zero g = ap (map pair_in_numbers) same_pairs ∙ graphs_reach stopped letters [] no_visits set None zero stands

  -- the calls of the empty word are all pairs, and so they are those of any graph
  pub base_reach : (g : graph.Graph) (limit : ℕ) → limit ≡ 0 →
      map pair_in_numbers (reach_along w letters limit) ≡ map (pair_in_letters letters) (graph.graph_reach g limit set None)
  base_reach g limit none =
      subst (λ n. map pair_in_numbers (reach_along w letters n) ≡ map (pair_in_letters letters) (graph.graph_reach g n set None))
      (sym none) (at_zero g)

-- no word of such a pair extends another
none_shorter : (test : Pair → Bool) (cs : List Call) →
    flat_map (λ (p : Pair). shorter p.0) (filter test (map (λ call. ([], call)) cs ++ [])) ≡ []
none_shorter test [] = refl
none_shorter test (c ∷ cs) =
    elim (test ([], c)) as (λ b. flat_map (λ (p : Pair). shorter p.0)
    (cond b (([], c) ∷ filter test (map (λ call. ([], call)) cs ++ [])) (filter test (map (λ call. ([], call)) cs ++ []))) ≡ []) [
      | true ↦ none_shorter test cs
      | false ↦ none_shorter test cs
    ]

pub none_live : (s : Scope) → s.limit ≡ 0 → length (live_states s) ≡ 0
none_live s none =
    ap (λ n. length (unique_keys same_stage (filter_map (stage_after s) (flat_map (λ (p : Pair). shorter p.0)
    (filter (is_reached s) (pairs s.alphabet n)))))) none
    ∙ ap (λ ws. length (unique_keys same_stage (filter_map (stage_after s) ws))) (none_shorter (is_reached s) calls)
