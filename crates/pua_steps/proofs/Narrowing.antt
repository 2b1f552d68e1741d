-- The lists leave out what gives nothing, so they have the same pairs as the table: what a walk over them needs.
use Rattle.pua_steps.proofs.Common.{ℕ, zero, suc, ◌+◌, ◌-◌, ◌*◌, ◌<◌, ◌≤◌, ◌≡◌, List, [], ◌∷◌, ◌++◌, Option, Some, None, Bool, true, false}
use Rattle.pua_steps.proofs.Common.{not, ◌||◌, ◌==◌, cond, nat_lt, refl, ap, arith, sym, ◌∙◌, map, filter, get_or, inl, inr, suc-mul}
use Rattle.pua_steps.proofs.Common.{mul-le-mul_right, subst, IfSome, AllByRecursion, cases_Bool, eqb-true, le-ltb, Graph, Pair, cons, alone}
use Rattle.pua_steps.proofs.Common.{below, rows, some_pair, calls_of, pairs_of, ahead, deeper, visit_of, gap, visits_from, graph_of}
use Rattle.pua_steps.proofs.Common.{missing_at, entries_at, IsEntry, IsState, IsTable, IsSized, IsBound, live_of, entrance, bound_of}
use Rattle.pua_steps.proofs.Common.{is_useful, list_of, narrow_of, State, Visit, Entry, Steps}
use Rattle.pua_steps.specs.Graph.{graph_reach}
use Rattle.pua_steps.specs.declared.live.Live as table
use Rattle.pua_steps.proofs.Filling.{below_none, below_end, below_some, entry_gives}
use Rattle.pua_steps.proofs.TrailPairs.{Prunes, pairs-fresh}
use Rattle.pua_steps.proofs.Turns.{alike}
use Rattle.pua_steps.proofs.Seeks.{deeper_entrance}
use Rattle.pua_steps.proofs.Closing.{Stays, visits_stay, no_pair, live_is}
use Rattle.pua_steps.proofs.WalkLists.{list_known}

-- without calls on other letters the visits are those of the entries
gap_none : (next n : ℕ) → gap 0 next n ≡ []
unfolding gap
gap_none next n = refl

entries_alone : (letters used next : ℕ) (es : List Entry) → visits_from letters 0 used next es ≡ map (visit_of used) es
unfolding visits_from
entries_alone letters used next [] = gap_none next (letters - next)
entries_alone letters used next (e ∷ es) =
    ap (λ vs. vs ++ visit_of used e ∷ visits_from letters 0 used (suc e.letter) es) (gap_none next (e.letter - next)) ∙
    ap (λ vs. visit_of used e ∷ vs) (entries_alone letters used (suc e.letter) es)

all_of : (p : Entry → Bool) → ((e : Entry) → p e ≡ true) → (es : List Entry) → filter p es ≡ es
all_of p each [] = refl
all_of p each (e ∷ es) = ap (λ b. cond b (e ∷ filter p es) (filter p es)) (each e) ∙ ap (λ xs. e ∷ xs) (all_of p each es)

-- entries may be left out where they give nothing
module _ (t : Steps) (g : Graph) (l u : ℕ) where
  abbrev on : Entry → List Pair
  on e = alone (calls_of (visit_of u e).calls) ++ below g l (visit_of u e).behind

  rows_left : (p : Entry → Bool) → ((e : Entry) → IsEntry t e → p e ≡ false → on e ≡ []) → (es : List Entry) →
      AllByRecursion (λ e. IsEntry t e) es → rows g l (map (visit_of u) (filter p es)) ≡ rows g l (map (visit_of u) es)
  unfolding rows cons
  rows_left p off [] all = refl
  rows_left p off (e ∷ es) all =
      let others : List Pair = rows g l (map (visit_of u) es) in
      elim (p e) as (λ b. p e ≡ b → rows g l (map (visit_of u) (cond b (e ∷ filter p es) (filter p es))) ≡ cons (visit_of u e).letter (on e)
      ++ others) [
        | true ↦ λ _. ap (λ ps. cons (visit_of u e).letter (on e) ++ ps) (rows_left p off es all.1)
        | false ↦ λ h. rows_left p off es all.1 ∙ ap (λ ps. cons (visit_of u e).letter ps ++ others) (sym (off e all.0 h))
      ] refl

pub useless : (m b : ℕ) → (not (m == 0) || not (b == 0)) ≡ false → b ≡ 0
useless m b h =
    elim (cases_Bool (b == 0)) [
      | inl e ↦ eqb-true b 0 e
      | inr e ↦ (let bad : true ≡ false = sym (or_true (not (m == 0))) ∙ ap (λ x. not (m == 0) || not x) (sym e) ∙ h in absurd cc)
    ]
  where
    or_true : (b : Bool) → (b || true) ≡ true
    or_true true = refl
    or_true false = refl

module _ (t : Steps) (v : table.Live) (limit : ℕ) (known : IsTable t) (sized : IsSized t v limit) where
  abbrev g : Graph
  g = graph_of t

  abbrev h : Graph
  h = narrow_of t v

  pub cells : (l : ℕ) → l ≤ limit → (d : ℕ) → d < v.dirs → IsBound g l d (get_or v.bounds.items (l * v.dirs + d) 0)
  cells l short d low =
      let at_most : suc l ≤ suc limit = omega (arith, short) in
      sized.filled l d low (omega (arith, low, sized.cells, suc-mul l v.dirs, mul-le-mul_right v.dirs at_most))

  useless_gives : (m l u : ℕ) → l ≤ limit → u ≤ 32 → (e : Entry) → IsEntry t e → is_useful m v.bounds.items v.dirs l e ≡ false →
      on t g l u e ≡ []
  useless_gives m l u short low e is off =
      let bound : bound_of v.bounds.items v.dirs l e ≡ 0 = useless m (bound_of v.bounds.items v.dirs l e) off in
      no_pair (on t g l u e) (entry_gives g v.bounds.items v.dirs l (cells l short) t u e is sized.dirs low ∙ ap (nat_lt u) bound ∙
      le-ltb u 0 (omega arith))

  rows_listed : (l : ℕ) (s : State) → l ≤ limit → IsState t s → rows g l (h l s) ≡ rows g l (g l s)
  unfolding narrow_of graph_of list_of
  rows_listed l s short is =
      let m : ℕ = missing_at t s.dir in
      let p : Entry → Bool = is_useful m v.bounds.items v.dirs l in
      let es : List Entry = entries_at t s.dir in
      elim (cases_Bool (m == 0)) [
        | inl none ↦
            let zero_is : m ≡ 0 = eqb-true m 0 none in
            ap (λ k. rows g l (visits_from t.letters k s.used 0 (filter p es))) zero_is
            ∙ ap (rows g l) (entries_alone t.letters s.used 0 (filter p es))
            ∙ rows_left t g l s.used p (useless_gives m l s.used short is.used) es (known s.dir is.dir).entries
            ∙ ap (rows g l) (sym (entries_alone t.letters s.used 0 es))
            ∙ ap (λ k. rows g l (visits_from t.letters k s.used 0 es)) (sym zero_is)
        | inr some ↦ ap (λ xs. rows g l (visits_from t.letters m s.used 0 xs))
            (all_of p (λ e. ap (λ b. not b || not (bound_of v.bounds.items v.dirs l e == 0)) some) es)
      ]

  pub lists_stay : (l : ℕ) (s : State) → IsState t s → AllByRecursion (Stays t) (h l s)
  unfolding narrow_of
  lists_stay l s is = visits_stay t t.letters (missing_at t s.dir) s.used 0 (list_of t v l s.dir) is.used
      (list_known t v l s.dir known is.dir)

  rows_same : (l : ℕ) → ((o : Option State) → IfSome o (λ s. IsState t s) → below h l o ≡ below g l o) → (vs : List Visit) →
      AllByRecursion (Stays t) vs → rows h l vs ≡ rows g l vs
  unfolding rows
  rows_same l each [] all = refl
  rows_same l each (x ∷ vs) all =
      ap (λ ps. cons x.letter (alone (calls_of x.calls) ++ ps) ++ rows h l vs) (each x.behind all.0)
      ∙ ap (λ ps. cons x.letter (alone (calls_of x.calls) ++ below g l x.behind) ++ ps) (rows_same l each vs all.1)

  -- the lists have the same pairs
  pub narrowed : (l : ℕ) → l ≤ limit → (o : Option State) → IfSome o (λ s. IsState t s) → below h l o ≡ below g l o
  narrowed zero short o is = below_end h o ∙ sym (below_end g o)
  narrowed (suc l) short None is = below_none h (suc l) ∙ sym (below_none g (suc l))
  narrowed (suc l) short (Some s) is =
      below_some h l s ∙ rows_same l (narrowed l (omega (arith, short))) (h l s) (lists_stay l s is) ∙
      rows_listed l s (omega (arith, short)) is ∙ sym (below_some g l s)

-- what the table of live states tells of the lists
pub lists_live : (t : Steps) (v : table.Live) (limit : ℕ) → IsTable t → IsSized t v limit → (l : ℕ) (s : State) → l ≤ limit → IsState t s →
    live_of v l s ≡ some_pair (below (narrow_of t v) l (Some s))
lists_live t v limit known sized l s short is = live_is t v limit sized l s short is ∙
    ap some_pair (sym (narrowed t v limit known sized l short (Some s) is))

pub prunes : (t : Steps) (v : table.Live) (limit : ℕ) → IsTable t → IsSized t v limit →
    Prunes (narrow_of t v) (live_of v) limit (λ s. IsState t s)
prunes t v limit known sized = record {
  closed = lists_stay t v limit known sized;
  nothing = λ l s short is dead.
      let none : some_pair (rows (narrow_of t v) l (narrow_of t v l s)) ≡ false = ap some_pair (sym (below_some (narrow_of t v) l s)) ∙
      sym (lists_live t v limit known sized (suc l) s short is) ∙ dead in
      no_pair (rows (narrow_of t v) l (narrow_of t v l s)) none;
}

-- a walk that begins has the whole reach before it
pub whole_reach : (t : Steps) (v : table.Live) (limit calls : ℕ) (o : Option State) → IsTable t → IsSized t v limit →
    IfSome o (λ s. IsState t s) → pairs_of (ahead (narrow_of t v) (live_of v) limit [] (calls_of calls) o []) ≡ graph_reach (graph_of t)
    limit calls o
whole_reach t v limit calls o known sized is =
    pairs-fresh (narrow_of t v) (live_of v) limit (λ s. IsState t s) (prunes t v limit known sized) calls o is
    ∙ ap (λ ps. alone (calls_of calls) ++ ps) (narrowed t v limit known sized limit (omega arith) o is)

-- the same where the state is tested first
pub whole_tested : (t : Steps) (v : table.Live) (limit calls : ℕ) (o p : Option State) → IsTable t → IsSized t v limit →
    IfSome o (λ s. IsState t s) → p ≡ entrance (live_of v) limit o
    → pairs_of (ahead (narrow_of t v) (live_of v) limit [] (calls_of calls) p []) ≡ graph_reach (graph_of t) limit calls o
whole_tested t v limit calls o p known sized is tested =
    let same : limit - 0 ≡ limit = omega arith in
    ap pairs_of (alike (narrow_of t v) (live_of v) limit [] [] (calls_of calls) p o
    (ap (λ n. deeper (narrow_of t v) (live_of v) n p) same ∙ ap (deeper (narrow_of t v) (live_of v) limit) tested ∙
    deeper_entrance (narrow_of t v) (live_of v) limit o ∙ ap (λ n. deeper (narrow_of t v) (live_of v) n o) (sym same)))
    ∙ whole_reach t v limit calls o known sized is

-- what the test leaves
pub tested_is : (t : Steps) (v : table.Live) (limit n : ℕ) (o p : Option State) → n ≡ 0 → IfSome o (λ s. IsState t s) →
    p ≡ entrance (live_of v) limit o → IfSome p (λ s. IsState t s × (live_of v (limit - n) s ≡ true))
tested_is t v limit n o p e is tested = subst (λ q. IfSome q (λ s. IsState t s × (live_of v (limit - n) s ≡ true))) (sym tested) (by o is)
  where
    same : limit ≡ limit - n
    same = omega (arith, e)

    by : (o : Option State) → IfSome o (λ s. IsState t s) →
        IfSome (entrance (live_of v) limit o) (λ s. IsState t s × (live_of v (limit - n) s ≡ true))
    by None h = tt
    by (Some s) h = elim (live_of v limit s) as (λ b. live_of v limit s ≡ b →
        IfSome (cond b (Some s) None) (λ s. IsState t s × (live_of v (limit - n) s ≡ true))) [
          | true ↦ λ lives. (h, ap (λ l. live_of v l s) (sym same) ∙ lives)
          | false ↦ λ _. tt
        ] refl

-- the test takes no pair away
pub tested_below : (t : Steps) (v : table.Live) (limit l : ℕ) (o p : Option State) → IsTable t → IsSized t v limit → l ≤ limit →
    IfSome o (λ s. IsState t s) → p ≡ entrance (live_of v) l o → below (narrow_of t v) l p ≡ below (narrow_of t v) l o
tested_below t v limit l o p known sized short is tested = ap (below (narrow_of t v) l) tested ∙ by o is
  where
    by : (o : Option State) → IfSome o (λ s. IsState t s) → below (narrow_of t v) l (entrance (live_of v) l o) ≡ below (narrow_of t v) l o
    by None h = refl
    by (Some s) h = elim (live_of v l s) as (λ b. live_of v l s ≡ b →
        below (narrow_of t v) l (cond b (Some s) None) ≡ below (narrow_of t v) l (Some s)) [
          | true ↦ λ _. refl
          | false ↦ λ dead. below_none (narrow_of t v) l ∙
              sym (no_pair (below (narrow_of t v) l (Some s)) (sym (lists_live t v limit known sized l s short h) ∙ dead))
        ] refl
