-- The table of steps and that of live states: steps stay among its directories, and what is not live has no pair.
use Rattle.pua_steps.proofs.Common.{ℕ, suc, ◌+◌, ◌-◌, ◌*◌, ◌<◌, ◌≤◌, ◌≡◌, List, [], ◌∷◌, Some, true, false, cond, ◌==◌, nat_lt, refl, arith}
use Rattle.pua_steps.proofs.Common.{length, map, get_or, suc-mul, mul-le-mul_right, IfSome, range_with_len, AllByRecursion, Pair, below}
use Rattle.pua_steps.proofs.Common.{some_pair, visit_of, missing_visit, gap, visits_from, graph_of, missing_at, entries_at, IsEntry}
use Rattle.pua_steps.proofs.Common.{IsState, IsTable, IsSized, live_of, State, Visit, Entry, Steps}
use Rattle.pua_steps.specs.declared.live.Live as table
use Rattle.pua_steps.proofs.Visits.{visit_is}
use Rattle.pua_steps.proofs.Base.{all_joined}

module _ (t : Steps) where
  abbrev pub Stays : Visit → Type 0
  Stays v = IfSome v.behind (λ s. IsState t s)

  missed_stay : (m : ℕ) (is : List ℕ) → AllByRecursion Stays (map (missing_visit m) is)
  missed_stay m [] = tt
  missed_stay m (i ∷ is) = (tt, missed_stay m is)

  gaps_stay : (m next n : ℕ) → AllByRecursion Stays (gap m next n)
  unfolding gap
  gaps_stay m next n = elim (m == 0) as (λ b. AllByRecursion Stays (cond b [] (map (missing_visit m) (range_with_len next n)))) [
    | true ↦ tt
    | false ↦ missed_stay m (range_with_len next n)
  ]

  pub visits_stay : (letters m u next : ℕ) (es : List Entry) → u ≤ 32 → AllByRecursion (λ e. IsEntry t e) es →
      AllByRecursion Stays (visits_from letters m u next es)
  unfolding visits_from
  visits_stay letters m u next [] low all = gaps_stay m next (letters - next)
  visits_stay letters m u next (e ∷ es) low all =
      all_joined Stays (gap m next (e.letter - next)) (visit_of u e ∷ visits_from letters m u (suc e.letter) es)
      (gaps_stay m next (e.letter - next))
      ((visit_is t u e all.0 low).behind, visits_stay letters m u (suc e.letter) es low all.1)

  pub states_stay : IsTable t → (l : ℕ) (s : State) → IsState t s → AllByRecursion Stays (graph_of t l s)
  unfolding graph_of
  states_stay known l s is = visits_stay t.letters (missing_at t s.dir) s.used 0 (entries_at t s.dir) is.used (known s.dir is.dir).entries

pub no_pair : (ps : List Pair) → some_pair ps ≡ false → ps ≡ []
no_pair [] h = refl
no_pair (p ∷ ps) h = absurd cc

pub bound_at : (t : Steps) (v : table.Live) (limit : ℕ) → IsSized t v limit → (l d u : ℕ) → l ≤ limit → d < length t.rows.items → u ≤ 32 →
    nat_lt u (get_or v.bounds.items (l * v.dirs + d) 0) ≡ some_pair (below (graph_of t) l (Some (record { dir = d; used = u })))
bound_at t v limit sized l d u short row low =
    let inside : d < v.dirs = omega (arith, row, sized.dirs) in
    let at_most : suc l ≤ suc limit = omega (arith, short) in
    let within : l * v.dirs + d < length v.bounds.items = omega (
      arith,
      inside,
      sized.cells,
      suc-mul l v.dirs,
      mul-le-mul_right v.dirs at_most,
    ) in
    (sized.filled l d inside within).tells u low

-- what the table tells
pub live_is : (t : Steps) (v : table.Live) (limit : ℕ) → IsSized t v limit → (l : ℕ) (s : State) → l ≤ limit → IsState t s →
    live_of v l s ≡ some_pair (below (graph_of t) l (Some s))
unfolding live_of
live_is t v limit sized l s short is =
    let low : s.dir < v.dirs = omega (arith, is.dir, sized.dirs) in
    let at_most : suc l ≤ suc limit = omega (arith, short) in
    let within : l * v.dirs + s.dir < length v.bounds.items =
    omega (arith, low, sized.cells, suc-mul l v.dirs, mul-le-mul_right v.dirs at_most) in
    (sized.filled l s.dir low within).tells s.used is.used
