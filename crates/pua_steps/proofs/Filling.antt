-- Bounds that tell of live states, letter by letter.
use Rattle.pua_steps.proofs.Common.{call_count, ℕ, zero, suc, ◌+◌, ◌-◌, ◌*◌, ◌<◌, ◌≤◌, ◌≡◌, max, List, [], ◌∷◌, ◌++◌, Option, Some, None, Bool, true}
use Rattle.pua_steps.proofs.Common.{false, cond, not, ◌||◌, ◌==◌, nat_lt, nat_le, refl, ap, arith, sym, ◌∙◌, length, get_or, option_map}
use Rattle.pua_steps.proofs.Common.{◌^◌, suc-mul, mul-le-mul_right, length-append, inl, inr, subst, IfSome, range_with_len, bit_at_above}
use Rattle.pua_steps.proofs.Common.{cases_lt, cases_eq, cases_Bool, eqb-true, le-leb, lt-leb, lt-ltb, le-ltb, and_parts, w32, has_call}
use Rattle.pua_steps.proofs.Common.{calls_of, Graph, Pair, cons, alone, below, rows, some_pair, visit_of, missing_visit, has_gap, end_of}
use Rattle.pua_steps.proofs.Common.{first_of, visits_from, graph_of, missing_at, entries_at, IsEntry, IsState, IsBound, IsSized, live_of}
use Rattle.pua_steps.proofs.Common.{bound_of, State, Visit, Entry, Steps, or-false}
use Rattle.std.proofs.Common.{zero-mul}
use Rattle.std.specs.Prelude.{filter}
use Rattle.std.specs.Int.{trailing_zeros}
use Rattle.std.proofs.lemmas.Nat.Bits.{bit_at-trailing_zeros}
use Rattle.std.proofs.lemmas.Bool.{eqb-false, not-true}
use Rattle.std.proofs.Math.Nat.{eq-or-lt_of_le}
use Rattle.pua_steps.specs.Live.{IsFilled}
use Rattle.pua_steps.specs.declared.live.Live as table
use Rattle.pua_steps.proofs.Visits.{from_gap, from_entry, from_end}

some_append : (ps qs : List Pair) → some_pair (ps ++ qs) ≡ (some_pair ps || some_pair qs)
some_append [] qs = refl
some_append (p ∷ ps) qs = refl

some_cons : (a : ℕ) (ps : List Pair) → some_pair (cons a ps) ≡ some_pair ps
unfolding cons
some_cons a [] = refl
some_cons a (p ∷ ps) = refl

-- a set with a call is no empty list

abbrev some_call : List ℕ → Bool
some_call [] = false
some_call (c ∷ cs) = true

kept_in : (f : ℕ → Bool) (t k n : ℕ) → k ≤ t → t < k + n → f t ≡ true → some_call (filter f (range_with_len k n)) ≡ true
kept_in f t k zero low high here = absurd (omega (arith, low, high))
kept_in f t k (suc n) low high here =
    let more = filter f (range_with_len (k + 1) n) in
    elim (f k) as (λ b. f k ≡ b → some_call (cond b (k ∷ more) more) ≡ true) [
      | true ↦ λ _. refl
      | false ↦ λ e. kept_in f t (k + 1) n (elim (cases_eq k t) [
        | inl same ↦ (let bad : true ≡ false = sym here ∙ ap f (sym same) ∙ e in
            absurd cc)
        | inr apart ↦ omega (arith, low, apart)
      ]) (omega (arith, high)) here
    ] refl

some_alone : (cs : List ℕ) → some_pair (alone cs) ≡ some_call cs
unfolding alone
some_alone [] = refl
some_alone (c ∷ cs) = refl

pub some_of : (m : ℕ) → m < 2 ^ call_count → some_pair (alone (calls_of m)) ≡ not (m == 0)
unfolding calls_of
some_of m fits =
    elim (cases_Bool (m == 0)) [
      | inl e ↦
          let none : m ≡ 0 = eqb-true m 0 e in
          ap (λ k. some_pair (alone (filter (has_call k) (range_with_len 0 call_count)))) none ∙ some_alone [] ∙ ap (λ k. not (k == 0)) (sym none)
      | inr e ↦
          let more : 0 < m = elim (cases_eq m 0) [ inl none ↦ absurd (eqb-false m 0 e none) | inr some ↦ omega (arith, some) ] in
          let low = bit_at-trailing_zeros w32 m more (omega (arith, fits)) in
          let t : ℕ = trailing_zeros w32 m in
          let within : t < call_count = elim (cases_lt t call_count) [
            | inl h ↦ h
            | inr h ↦ (let bad : 1 ≡ 0 = sym low.1 ∙ bit_at_above m call_count t fits h in
                absurd (omega (arith, bad)))
          ] in
          some_alone (filter (has_call m) (range_with_len 0 call_count)) ∙
          kept_in (has_call m) t 0 call_count (omega arith) (omega (arith, within)) (ap (λ b. b == 1) low.1) ∙ ap not (sym e)
    ]

module _ (g : Graph) where
  pub below_none : (l : ℕ) → below g l None ≡ []
  unfolding below
  below_none zero = refl
  below_none (suc l) = refl

  pub below_end : (o : Option State) → below g 0 o ≡ []
  unfolding below
  below_end o = refl

  pub below_some : (l : ℕ) (s : State) → below g (suc l) (Some s) ≡ rows g l (g l s)
  unfolding below rows
  below_some l s = refl

  -- whether something is allowed on a letter or after it
  abbrev pub gives : ℕ → Visit → Bool
  gives l v = some_pair (alone (calls_of v.calls) ++ below g l v.behind)

  pub rows_more : (l : ℕ) (v : Visit) (vs : List Visit) → some_pair (rows g l (v ∷ vs)) ≡ (gives l v || some_pair (rows g l vs))
  unfolding rows
  rows_more l v vs = some_append (cons v.letter (alone (calls_of v.calls) ++ below g l v.behind)) (rows g l vs) ∙
      ap (λ b. b || some_pair (rows g l vs)) (some_cons v.letter (alone (calls_of v.calls) ++ below g l v.behind))

  pub rows_none : (l : ℕ) → some_pair (rows g l []) ≡ false
  unfolding rows
  rows_none l = refl

  -- by the calls, and by the state after
  gives_by : (l : ℕ) (v : Visit) (b : Bool) → v.calls < 2 ^ call_count → some_pair (below g l v.behind) ≡ b → gives l v ≡ (not (v.calls == 0) || b)
  gives_by l v b fits behind =
      some_append (alone (calls_of v.calls)) (below g l v.behind) ∙ ap (λ x. x || some_pair (below g l v.behind)) (some_of v.calls fits) ∙
      ap (λ x. not (v.calls == 0) || x) behind

  module _ (bounds : List ℕ) (dirs l : ℕ) (cells : (d : ℕ) → d < dirs → IsBound g l d (get_or bounds (l * dirs + d) 0)) where
    -- with few links: the calls where the letter's links are followed, or the state after
    near : (u : ℕ) (e : Entry) → e.all < 2 ^ call_count → (e.all ≡ 0 → e.kept ≡ 0) → IfSome e.to (λ d. d < dirs) → e.links ≤ 32 → u ≤ 32 →
        u + e.links ≤ 32
        → (not (e.all == 0) || some_pair (below g l (option_map (λ to. record { dir = to; used = u + e.links }) e.to)))
        ≡ nat_lt u (bound_of bounds dirs l e)
    near u e fits more to links low under =
        elim (cases_Bool (e.kept == 0)) [
          | inr kept ↦
              let some : (e.all == 0) ≡ false = elim (cases_Bool (e.all == 0)) [
                | inr h ↦ h
                | inl h ↦ absurd (eqb-false e.kept 0 kept (more (eqb-true e.all 0 h)))
              ] in
              rw (some, kept) (sym (lt-ltb u 33 (omega (arith, low))))
          | inl none ↦ elim (cases_Bool (e.all == 0)) [
            | inr some ↦
                let wide : u < 33 - e.links = omega (arith, under) in
                rw (some, none) (sym (lt-ltb u (max (33 - e.links) _) (omega (arith, wide))))
            | inl empty ↦ rw (empty, none) (stands e.to to)
          ]
        ]
      where
        stands : (o : Option ℕ) → IfSome o (λ d. d < dirs)
            → some_pair (below g l (option_map (λ to. record { dir = to; used = u + e.links }) o))
            ≡ nat_lt u (max 0 (elim o [ None ↦ 0 | Some d ↦ get_or bounds (l * dirs + d) 0 - e.links ]))
        stands None h = ap some_pair (below_none l) ∙ sym (le-ltb u (max 0 0) (omega arith))
        stands (Some d) h =
            let b : ℕ = get_or bounds (l * dirs + d) 0 in
            sym ((cells d h).tells (u + e.links) under)
            ∙ elim (cases_lt (u + e.links) b) [
              | inl less ↦ lt-ltb (u + e.links) b less ∙ sym (lt-ltb u (max 0 (b - e.links)) (omega (arith, less)))
              | inr past ↦ le-ltb (u + e.links) b past ∙ sym (le-ltb u (max 0 (b - e.links)) (omega (arith, past)))
            ]

    -- with too many links: the calls where the letter's final link is kept
    far : (u : ℕ) (e : Entry) → IfSome e.to (λ d. d < dirs) → e.links ≤ 32 → u ≤ 32 → 32 < u + e.links →
        not (e.kept == 0) ≡ nat_lt u (bound_of bounds dirs l e)
    far u e to links low over =
        elim (cases_Bool (e.kept == 0)) [
          | inr kept ↦ rw kept (sym (lt-ltb u 33 (omega (arith, low))))
          | inl none ↦ rw none (sym (le-ltb u _ (small (e.all == 0) e.to to)))
        ]
      where
        small : (b : Bool) (o : Option ℕ) → IfSome o (λ d. d < dirs) →
            max (cond b 0 (33 - e.links)) (elim o [ None ↦ 0 | Some d ↦ get_or bounds (l * dirs + d) 0 - e.links ]) ≤ u
        small true None h = omega arith
        small false None h = omega (arith, over)
        small true (Some d) h = omega (arith, over, (cells d h).most)
        small false (Some d) h = omega (arith, over, (cells d h).most)

    pub entry_gives : (t : Steps) (u : ℕ) (e : Entry) → IsEntry t e → dirs ≡ length t.rows.items → u ≤ 32 →
        gives l (visit_of u e) ≡ nat_lt u (bound_of bounds dirs l e)
    unfolding visit_of
    entry_gives t u e is same low =
        let to : IfSome e.to (λ d. d < dirs) = subst (λ n. IfSome e.to (λ d. d < n)) (sym same) is.to in
        elim (cases_lt 32 (u + e.links)) [
          | inr under ↦
              let short : nat_le (u + e.links) 32 ≡ true = le-leb (u + e.links) 32 under in
              rw short (gives_by l (record
              { letter = e.letter; calls = e.all; behind = option_map (λ to. record { dir = to; used = u + e.links }) e.to }) _ is.all
              refl ∙ near u e is.all is.more to is.links low under)
          | inl over ↦
              let long : nat_le (u + e.links) 32 ≡ false = lt-leb (u + e.links) 32 over in
              rw long (gives_by l (record { letter = e.letter; calls = e.kept; behind = None }) false is.kept (ap some_pair (below_none l))
              ∙ or-false (not (e.kept == 0)) ∙ far u e to is.links low over)
        ]

    pub bound_within : (e : Entry) → IfSome e.to (λ d. d < dirs) → bound_of bounds dirs l e ≤ 33
    bound_within e to = elim (e.kept == 0)
        as (λ b. cond b (max (cond (e.all == 0) 0 (33 - e.links)) (elim e.to [
          | None ↦ 0
          | Some d ↦ get_or bounds (l * dirs + d) 0 - e.links
        ])) 33 ≤ 33) [ true ↦ few (e.all == 0) e.to to | false ↦ omega arith ]
      where
        few : (b : Bool) (o : Option ℕ) → IfSome o (λ d. d < dirs) →
            max (cond b 0 (33 - e.links)) (elim o [ None ↦ 0 | Some d ↦ get_or bounds (l * dirs + d) 0 - e.links ]) ≤ 33
        few true None h = omega arith
        few false None h = omega arith
        few true (Some d) h = omega (arith, (cells d h).most)
        few false (Some d) h = omega (arith, (cells d h).most)

    module _ (letters m u next : ℕ) (fits : m < 2 ^ call_count) where
      abbrev left : List Entry → Bool
      left es = some_pair (rows g l (visits_from letters m u next es))

      -- a letter without an entry comes next, and calls are allowed on it
      pub gap_gives : (es : List Entry) → has_gap m next (end_of letters (first_of es)) ≡ true → left es ≡ true
      gap_gives es some =
          let calls : (m == 0) ≡ false = not-true (m == 0) (and_parts (not (m == 0)) (nat_lt next (end_of letters (first_of es))) some).0 in
          ap (λ vs. some_pair (rows g l vs)) (from_gap letters m u next es some) ∙
          rows_more l (missing_visit m next) (visits_from letters m u (next + 1) es)
          ∙ ap (λ b. b || some_pair (rows g l (visits_from letters m u (next + 1) es)))
          (gives_by l (missing_visit m next) false fits (ap some_pair (below_none l)) ∙ ap (λ b. not b || false) calls)

      pub end_gives : has_gap m next letters ≡ false → left [] ≡ false
      end_gives none = ap (λ vs. some_pair (rows g l vs)) (from_end letters m u next none) ∙ rows_none l

      pub entry_left : (t : Steps) (e : Entry) (es : List Entry) → IsEntry t e → dirs ≡ length t.rows.items → u ≤ 32 →
          has_gap m next e.letter ≡ false
          → left (e ∷ es) ≡ (nat_lt u (bound_of bounds dirs l e) || some_pair (rows g l (visits_from letters m u (e.letter + 1) es)))
      entry_left t e es is same low none =
          ap (λ vs. some_pair (rows g l vs)) (from_entry letters m u next e es none)
          ∙ rows_more l (visit_of u e) (visits_from letters m u (e.letter + 1) es)
          ∙ ap (λ b. b || some_pair (rows g l (visits_from letters m u (e.letter + 1) es))) (entry_gives t u e is same low)

pub max_either : (u a b : ℕ) (c : Bool) → (nat_lt u a || (nat_lt u b || c)) ≡ (nat_lt u (max b a) || c)
max_either u a b c =
    elim (cases_lt u a) [
      | inl h ↦ rw (lt-ltb u a h, lt-ltb u (max b a) (omega (arith, h))) refl
      | inr h ↦ rw (le-ltb u a h) (elim (cases_lt u b) [
        | inl k ↦ rw (lt-ltb u b k, lt-ltb u (max b a) (omega (arith, k))) refl
        | inr k ↦ rw (le-ltb u b k, le-ltb u (max b a) (omega (arith, h, k))) refl
      ])
    ]

-- one cell more

not_before : (k l s t size : ℕ) → s < size → k < l → k * size + s ≡ l * size + t → ⊥
not_before k l s t size h less e = omega (arith, suc-mul k size, mul-le-mul_right size at_most, e, h)
  where
    at_most : suc k ≤ l
    at_most = omega (arith, less)

same_row : (k l s t size : ℕ) → s < size → t < size → k * size + s ≡ l * size + t → k ≡ l
same_row k l s t size h i e = omega (
  arith,
  (λ (less : k < l). not_before k l s t size h less e),
  (λ (less : l < k). not_before l k t s size i less (sym e)),
)

pub at_end : (xs : List ℕ) (b : ℕ) (i : ℕ) → i ≡ length xs → get_or (xs ++ b ∷ []) i 0 ≡ b
at_end [] b zero e = refl
at_end [] b (suc i) e = absurd (omega (arith, e))
at_end (x ∷ xs) b zero e = absurd (omega (arith, e))
at_end (x ∷ xs) b (suc i) e = at_end xs b i (omega (arith, e))

at_before : (xs : List ℕ) (b : ℕ) (i : ℕ) → i < length xs → get_or (xs ++ b ∷ []) i 0 ≡ get_or xs i 0
at_before [] b i h = absurd (omega (arith, h))
at_before (x ∷ xs) b zero h = refl
at_before (x ∷ xs) b (suc i) h = at_before xs b i (omega (arith, h))

pub filled_more : (g : Graph) (dirs : ℕ) (bounds after : List ℕ) (l d b : ℕ) → IsFilled g dirs bounds → length bounds ≡ l * dirs + d →
    d < dirs → IsBound g l d b → after ≡ bounds ++ b ∷ [] → IsFilled g dirs after
filled_more g dirs bounds after l d b filled cells low tells pushed = λ k t h within.
    let bound : k * dirs + t < length bounds + 1 = omega (arith, within, ap length pushed, length-append bounds (b ∷ [])) in
    subst (λ xs. IsBound g k t (get_or xs (k * dirs + t) 0)) (sym pushed) (cell k t h bound)
  where
    at_most : (i n : ℕ) → i < n + 1 → i ≤ n
    at_most i n h = omega (arith, h)

    cell : (k t : ℕ) → t < dirs → k * dirs + t < length bounds + 1 → IsBound g k t (get_or (bounds ++ b ∷ []) (k * dirs + t) 0)
    cell k t h bound =
        elim (eq-or-lt_of_le (at_most (k * dirs + t) (length bounds) bound)) [
          | inr less ↦ subst (IsBound g k t) (sym (at_before bounds b (k * dirs + t) less)) (filled k t h less)
          | inl e ↦
              let layer : k ≡ l = same_row k l t d dirs h low (e ∙ cells) in
              let dir : t ≡ d = omega (arith, e, cells, ap (λ n. n * dirs) layer) in
              subst (IsBound g k t) (sym (at_end bounds b (k * dirs + t) e))
              (subst (λ n. IsBound g n t b) (sym layer) (subst (λ n. IsBound g l n b) (sym dir) tells))
        ]

-- no word goes on where no letter may come
pub no_bound : (g : Graph) (l d : ℕ) → l ≡ 0 → IsBound g l d 0
no_bound g l d e = record {
  most = omega arith;
  tells = λ u h. le-ltb u 0 (omega arith) ∙
      sym (ap (λ n. some_pair (below g n (Some (record { dir = d; used = u })))) e ∙
      ap some_pair (below_end g (Some (record { dir = d; used = u }))));
}

graph_is : (t : Steps) (l d u : ℕ) →
    graph_of t l (record { dir = d; used = u }) ≡ visits_from t.letters (missing_at t d) u 0 (entries_at t d)
unfolding graph_of
graph_is t l d u = refl

pub tells_by : (t : Steps) (l d b : ℕ) → b ≤ 33 →
    ((u : ℕ) → u ≤ 32 → some_pair (rows (graph_of t) l (visits_from t.letters (missing_at t d) u 0 (entries_at t d))) ≡ nat_lt u b) →
    IsBound (graph_of t) (suc l) d b
tells_by t l d b most each =
    record {
      most = most;
      tells = λ u h. sym (each u h) ∙ sym (ap some_pair (below_some (graph_of t) l (record { dir = d; used = u })) ∙
          ap (λ vs. some_pair (rows (graph_of t) l vs)) (graph_is t l d u));
    }

ends_at : (t : Steps) (v : table.Live) (limit : ℕ) → v.dirs ≡ length t.rows.items →
    length v.bounds.items ≡ suc limit * length t.rows.items → IsFilled (graph_of t) (length t.rows.items) v.bounds.items → (s : State) →
    IsState t s → live_of v 0 s ≡ false
unfolding live_of
ends_at t v limit same cells filled s is =
    let n : ℕ = length t.rows.items in
    let none : 0 * n ≡ 0 = zero-mul n in
    let within : 0 * n + s.dir < length v.bounds.items = omega (arith, none, is.dir, cells, suc-mul limit n) in
    ap (λ k. nat_lt s.used (get_or v.bounds.items (0 * k + s.dir) 0)) same ∙ (filled 0 s.dir is.dir within).tells s.used is.used ∙
    ap some_pair (below_end (graph_of t) (Some s))

pub sized_by : (t : Steps) (v : table.Live) (limit : ℕ) → v.dirs ≡ length t.rows.items →
    length v.bounds.items ≡ suc limit * length t.rows.items → IsFilled (graph_of t) (length t.rows.items) v.bounds.items → IsSized t v limit
sized_by t v limit same cells filled = record {
  dirs = same;
  cells = cells ∙ ap (λ n. suc limit * n) (sym same);
  ends = λ s is. ends_at t v limit same cells filled s is;
  filled = subst (λ n. IsFilled (graph_of t) n v.bounds.items) (sym same) filled;
}
