-- The pairs that a table of steps gives are of its letters and of calls that there are.
use Rattle.pua_steps.proofs.Common.{call_count, ℕ, zero, suc, ◌+◌, ◌-◌, ◌<◌, ◌≤◌, List, [], ◌∷◌, ◌++◌, Option, Some, None, Bool, true, false, cond}
use Rattle.pua_steps.proofs.Common.{◌==◌, arith, map, filter, IfSome, range_with_len, AllByRecursion, has_call, calls_of, Pair, cons, alone}
use Rattle.pua_steps.proofs.Common.{below, visit_of, missing_visit, gap, visits_from, graph_of, missing_at, entries_at, IsEntry, IsState}
use Rattle.pua_steps.proofs.Common.{IsTable, State, Visit, Entry, Steps}
use Rattle.std.proofs.Common.{flat_map}
use Rattle.pua_steps.specs.Within.{IsPair, ReachIsWithin}
use Rattle.pua_steps.proofs.Closing.{Stays, states_stay}
use Rattle.pua_steps.proofs.Visits.{visit_is}
use Rattle.pua_steps.proofs.Base.{all_joined}

range_below : (most k n : ℕ) → n ≤ most - k → AllByRecursion (λ i. i < most) (range_with_len k n)
range_below most k zero h = tt
range_below most k (suc n) h = (omega (arith, h), range_below most (k + 1) n (omega (arith, h)))

kept_below : (most : ℕ) (test : ℕ → Bool) (cs : List ℕ) → AllByRecursion (λ i. i < most) cs →
    AllByRecursion (λ i. i < most) (filter test cs)
kept_below most test [] all = tt
kept_below most test (c ∷ cs) all =
    elim (test c) as (λ b. AllByRecursion (λ i. i < most) (cond b (c ∷ filter test cs) (filter test cs))) [
      | true ↦ (all.0, kept_below most test cs all.1)
      | false ↦ kept_below most test cs all.1
    ]

calls_below : (set : ℕ) → AllByRecursion (λ c. c < call_count) (calls_of set)
unfolding calls_of
calls_below set = kept_below call_count (has_call set) (range_with_len 0 call_count) (range_below call_count 0 call_count (omega arith))

module _ (letters : ℕ) where
  alone_within : (cs : List ℕ) → AllByRecursion (λ c. c < call_count) cs → AllByRecursion (λ p. IsPair letters p) (alone cs)
  unfolding alone
  alone_within [] all = tt
  alone_within (c ∷ cs) all = (record { word = tt; call = all.0 }, alone_within cs all.1)

  cons_within : (a : ℕ) (ps : List Pair) → a < letters → AllByRecursion (λ p. IsPair letters p) ps →
      AllByRecursion (λ p. IsPair letters p) (cons a ps)
  unfolding cons
  cons_within a [] here all = tt
  cons_within a (p ∷ ps) here all = (record { word = (here, all.0.word); call = all.0.call }, cons_within a ps here all.1)

  abbrev Here : Visit → Type 0
  Here v = v.letter < letters

  missed_here : (m : ℕ) (is : List ℕ) → AllByRecursion (λ i. i < letters) is → AllByRecursion Here (map (missing_visit m) is)
  missed_here m [] all = tt
  missed_here m (i ∷ is) all = (all.0, missed_here m is all.1)

  gap_here : (m next n : ℕ) → n ≤ letters - next → AllByRecursion Here (gap m next n)
  unfolding gap
  gap_here m next n h =
      elim (m == 0) as (λ b. AllByRecursion Here (cond b [] (map (missing_visit m) (range_with_len next n)))) [
        | true ↦ tt
        | false ↦ missed_here m (range_with_len next n) (range_below letters next n h)
      ]

module _ (t : Steps) where
  visits_here : (m u next : ℕ) (es : List Entry) → u ≤ 32 → AllByRecursion (λ e. IsEntry t e) es →
      AllByRecursion (Here t.letters) (visits_from t.letters m u next es)
  unfolding visits_from
  visits_here m u next [] low all = gap_here t.letters m next (t.letters - next) (omega arith)
  visits_here m u next (e ∷ es) low all =
      all_joined (Here t.letters) (gap m next (e.letter - next)) (visit_of u e ∷ visits_from t.letters m u (suc e.letter) es)
      (gap_here t.letters m next (e.letter - next) (omega (arith, all.0.letter)))
      ((visit_is t u e all.0 low).letter, visits_here m u (suc e.letter) es low all.1)

  module _ (known : IsTable t) where
    states_here : (l : ℕ) (s : State) → IsState t s → AllByRecursion (Here t.letters) (graph_of t l s)
    unfolding graph_of
    states_here l s is = visits_here (missing_at t s.dir) s.used 0 (entries_at t s.dir) is.used (known s.dir is.dir).entries

    below_within : (l : ℕ) (o : Option State) → IfSome o (λ s. IsState t s) →
        AllByRecursion (λ p. IsPair t.letters p) (below (graph_of t) l o)
    unfolding below
    below_within zero o is = tt
    below_within (suc l) None is = tt
    below_within (suc l) (Some s) is = flat (below_within l) (graph_of t l s) (states_here l s is) (states_stay t known l s is)
      where
        flat : ((o : Option State) → IfSome o (λ s. IsState t s) → AllByRecursion (λ p. IsPair t.letters p) (below (graph_of t) l o))
            → (vs : List Visit) → AllByRecursion (Here t.letters) vs → AllByRecursion (Stays t) vs
            → AllByRecursion (λ p. IsPair t.letters p)
            (flat_map (λ v. cons v.letter (alone (calls_of v.calls) ++ below (graph_of t) l v.behind)) vs)
        flat more [] here stays = tt
        flat more (v ∷ vs) here stays =
            all_joined (λ p. IsPair t.letters p) (cons v.letter (alone (calls_of v.calls) ++ below (graph_of t) l v.behind)) _
            (cons_within t.letters v.letter (alone (calls_of v.calls) ++ below (graph_of t) l v.behind) here.0
            (all_joined (λ p. IsPair t.letters p) (alone (calls_of v.calls)) (below (graph_of t) l v.behind)
            (alone_within t.letters (calls_of v.calls) (calls_below v.calls)) (more v.behind stays.0)))
            (flat more vs here.1 stays.1)

pub reach_is_within : ReachIsWithin
reach_is_within t limit calls base known is =
    all_joined (λ p. IsPair t.letters p) (alone (calls_of calls)) (below (graph_of t) limit base)
    (alone_within t.letters (calls_of calls) (calls_below calls)) (below_within t known limit base is)
