-- Where a letter stands among those of a state.
use Rattle.pua_steps.proofs.Common.{ℕ, zero, suc, ◌+◌, ◌-◌, ◌<◌, ◌≤◌, ◌≡◌, List, [], ◌∷◌, ◌++◌, None, true, false, not, cond, ◌==◌, refl}
use Rattle.pua_steps.proofs.Common.{ap, arith, sym, ◌∙◌, map, drop, append_assoc, inl, inr, subst, nat_le, option_map, map-append}
use Rattle.pua_steps.proofs.Common.{cases_Bool, eqb-true, IfSome, range_with_len, AllByRecursion, IsSplit, visit_of, missing_visit, gap}
use Rattle.pua_steps.proofs.Common.{first_of, visits_from, Rising, Visit, Entry}
use Rattle.std.specs.Prelude.{take}
use Rattle.pua_steps.proofs.Base.{all_joined}

-- numbers in order

range-append : (next k j : ℕ) → range_with_len next (k + j) ≡ range_with_len next k ++ range_with_len (next + k) j
range-append next zero j =
    let a : 0 + j ≡ j = omega arith in
    let b : next ≡ next + 0 = omega arith in
    ap (range_with_len next) a ∙ ap (λ i. range_with_len i j) b
range-append next (suc k) j =
    let a : suc k + j ≡ suc (k + j) = omega arith in
    let b : (next + 1) + k ≡ next + suc k = omega arith in
    ap (range_with_len next) a ∙ ap (λ is. next ∷ is) (range-append (next + 1) k j ∙
    ap (λ i. range_with_len (next + 1) k ++ range_with_len i j) b)

module _ (m : ℕ) where
  missed_low : (a next n : ℕ) → next + n ≤ a → AllByRecursion (λ (y : Visit). y.letter < a) (map (missing_visit m) (range_with_len next n))
  missed_low a next zero h = tt
  missed_low a next (suc n) h = (omega (arith, h), missed_low a (next + 1) n (omega (arith, h)))

  missed_high : (a next n : ℕ) → a ≤ next → AllByRecursion (λ (y : Visit). a ≤ y.letter) (map (missing_visit m) (range_with_len next n))
  missed_high a next zero h = tt
  missed_high a next (suc n) h = (h, missed_high a (next + 1) n (omega (arith, h)))

  gap_low : (a next n : ℕ) → next + n ≤ a → AllByRecursion (λ (y : Visit). y.letter < a) (gap m next n)
  unfolding gap
  gap_low a next n h = elim (m == 0)
      as (λ b. AllByRecursion (λ (y : Visit). y.letter < a) (cond b [] (map (missing_visit m) (range_with_len next n)))) [
        | true ↦ tt
        | false ↦ missed_low a next n h
      ]

  gap_high : (a next n : ℕ) → a ≤ next → AllByRecursion (λ (y : Visit). a ≤ y.letter) (gap m next n)
  unfolding gap
  gap_high a next n h =
      elim (m == 0) as (λ b. AllByRecursion (λ (y : Visit). a ≤ y.letter) (cond b [] (map (missing_visit m) (range_with_len next n))))
      [ true ↦ tt | false ↦ missed_high a next n h ]

  gap-append : (next k j : ℕ) → gap m next (k + j) ≡ gap m next k ++ gap m (next + k) j
  unfolding gap
  gap-append next k j =
      elim (m == 0) as (λ b. cond b [] (map (missing_visit m) (range_with_len next (k + j)))
      ≡ cond b [] (map (missing_visit m) (range_with_len next k)) ++ cond b [] (map (missing_visit m) (range_with_len (next + k) j))) [
        | true ↦ refl
        | false ↦ ap (map (missing_visit m)) (range-append next k j) ∙
            map-append (missing_visit m) (range_with_len next k) (range_with_len (next + k) j)
      ]

  gap_one : (a j : ℕ) → gap m a (suc j) ≡ cond (not (m == 0)) (missing_visit m a ∷ gap m (a + 1) j) (gap m (a + 1) j)
  unfolding gap
  gap_one a j =
      elim (m == 0) as (λ b. cond b [] (map (missing_visit m) (range_with_len a (suc j)))
      ≡ cond (not b) (missing_visit m a ∷ cond b [] (map (missing_visit m) (range_with_len (a + 1) j)))
      (cond b [] (map (missing_visit m) (range_with_len (a + 1) j)))) [
        | true ↦ refl
        | false ↦ refl
      ]

  gap_zero : (a : ℕ) → gap m a 0 ≡ []
  unfolding gap
  gap_zero a = elim (m == 0) as (λ b. cond b [] (map (missing_visit m) (range_with_len a 0)) ≡ []) [ true ↦ refl | false ↦ refl ]

  -- letters without entries, up to one and from it on
  gap_to : (a next end : ℕ) → next ≤ a → a ≤ end → gap m next (end - next) ≡ gap m next (a - next) ++ gap m a (end - a)
  gap_to a next end low high =
      let long : end - next ≡ (a - next) + (end - a) = omega (arith, low, high) in
      let there : next + (a - next) ≡ a = omega (arith, low) in
      ap (gap m next) long ∙ gap-append next (a - next) (end - a) ∙ ap (λ i. gap m next (a - next) ++ gap m i (end - a)) there

  gap_at : (a end : ℕ) → a < end →
      gap m a (end - a) ≡ cond (not (m == 0)) (missing_visit m a ∷ gap m (a + 1) (end - (a + 1))) (gap m (a + 1) (end - (a + 1)))
  gap_at a end h =
      let long : end - a ≡ suc (end - (a + 1)) = omega (arith, h) in
      ap (gap m a) long ∙ gap_one a (end - (a + 1))

abbrev letter_in : Visit → ℕ
letter_in x = x.letter

letter_is : (u : ℕ) (e : Entry) → (visit_of u e).letter ≡ e.letter
unfolding visit_of
letter_is u e = elim (nat_le (u + e.links) 32)
    as (λ b. letter_in (cond b
    (record { letter = e.letter; calls = e.all; behind = option_map (λ to. record { dir = to; used = u + e.links }) e.to })
    (record { letter = e.letter; calls = e.kept; behind = None })) ≡ e.letter) [ true ↦ refl | false ↦ refl ]

module _ (letters m u : ℕ) where
  abbrev from : ℕ → List Entry → List Visit
  from next es = visits_from letters m u next es

  -- letters come from the next one on
  pub letters_high : (a next : ℕ) (es : List Entry) → Rising next es → a ≤ next →
      AllByRecursion (λ (y : Visit). a ≤ y.letter) (from next es)
  unfolding visits_from
  letters_high a next [] rises h = gap_high m a next (letters - next) h
  letters_high a next (e ∷ es) rises h =
      all_joined (λ (y : Visit). a ≤ y.letter) (gap m next (e.letter - next)) (visit_of u e ∷ from (suc e.letter) es)
      (gap_high m a next (e.letter - next) h)
      (omega (arith, h, rises.0, letter_is u e), letters_high a (suc e.letter) es rises.1 (omega (arith, h, rises.0)))

  -- the visits before a letter, and those from it on
  pub record Cut (a next : ℕ) (es back : List Entry) : Type 0 where
    pub front : List Visit
    pub parts : from next es ≡ front ++ from a back
    pub low : AllByRecursion (λ (y : Visit). y.letter < a) front
    pub rises : Rising a back

  cut_here : (a next : ℕ) (es : List Entry) → next ≤ a → a < letters → Rising next es → IfSome (first_of es) (λ e. a ≤ e.letter) →
      Cut a next es es
  unfolding visits_from
  cut_here a next [] low within rises high = record {
    front = gap m next (a - next);
    parts = gap_to m a next letters low (omega (arith, within));
    low = gap_low m a next (a - next) (omega (arith, low));
    rises = tt;
  }
  cut_here a next (e ∷ es) low within rises high = record {
    front = gap m next (a - next);
    parts = ap (λ vs. vs ++ visit_of u e ∷ from (suc e.letter) es) (gap_to m a next e.letter low high) ∙
        append_assoc (gap m next (a - next)) (gap m a (e.letter - a)) (visit_of u e ∷ from (suc e.letter) es);
    low = gap_low m a next (a - next) (omega (arith, low));
    rises = (high, rises.1);
  }

  pub cut_at : (a p next : ℕ) (es : List Entry) → next ≤ a → a < letters → Rising next es → AllByRecursion (λ e. e.letter < a) (take p es) →
      IfSome (first_of (drop p es)) (λ e. a ≤ e.letter) → Cut a next es (drop p es)
  unfolding visits_from
  cut_at a zero next es low within rises before high = cut_here a next es low within rises high
  cut_at a (suc p) next [] low within rises before high = cut_here a next [] low within rises high
  cut_at a (suc p) next (e ∷ es) low within rises before high =
      let less : e.letter < a = before.0 in
      let more = cut_at a p (suc e.letter) es (omega (arith, less)) within rises.1 before.1 high in record {
        front = gap m next (e.letter - next) ++ visit_of u e ∷ more.front;
        parts = ap (λ vs. gap m next (e.letter - next) ++ visit_of u e ∷ vs) more.parts ∙
            sym (append_assoc (gap m next (e.letter - next)) (visit_of u e ∷ more.front) (from a (drop p es)));
        low = all_joined (λ (y : Visit). y.letter < a) (gap m next (e.letter - next)) (visit_of u e ∷ more.front)
            (gap_low m a next (e.letter - next) (omega (arith, rises.0, less))) (omega (arith, less, letter_is u e), more.low);
        rises = more.rises;
      }

  -- no entry has the letter
  missed_at : (a : ℕ) (back : List Entry) → a < letters → IfSome (first_of back) (λ e. a < e.letter) →
      from a back ≡ cond (not (m == 0)) (missing_visit m a ∷ from (a + 1) back) (from (a + 1) back)
  unfolding visits_from
  missed_at a [] within high = gap_at m a letters within
  missed_at a (e ∷ back) within high =
      let more : List Visit = visit_of u e ∷ from (suc e.letter) back in
      ap (λ vs. vs ++ more) (gap_at m a e.letter high) ∙
      elim (not (m == 0)) as (λ b. cond b (missing_visit m a ∷ gap m (a + 1) (e.letter - (a + 1))) (gap m (a + 1) (e.letter - (a + 1)))
      ++ more ≡ cond b (missing_visit m a ∷ gap m (a + 1) (e.letter - (a + 1)) ++ more) (gap m (a + 1) (e.letter - (a + 1)) ++ more))
      [ true ↦ refl | false ↦ refl ]

  -- the first entry has it
  found_at : (a : ℕ) (e : Entry) (back : List Entry) → e.letter ≡ a → from a (e ∷ back) ≡ visit_of u e ∷ from (a + 1) back
  unfolding visits_from
  found_at a e back here =
      let none : e.letter - a ≡ 0 = omega (arith, here) in
      let more : suc e.letter ≡ a + 1 = omega (arith, here) in
      ap (λ n. gap m a n ++ visit_of u e ∷ from (suc e.letter) back) none ∙
      ap (λ vs. vs ++ visit_of u e ∷ from (suc e.letter) back) (gap_zero m a) ∙ ap (λ n. visit_of u e ∷ from n back) more

  above : (a : ℕ) (back : List Entry) → Rising (a + 1) back → AllByRecursion (λ (y : Visit). a < y.letter) (from (a + 1) back)
  above a back rises = more (from (a + 1) back) (letters_high (a + 1) (a + 1) back rises (omega arith))
    where
      more : (vs : List Visit) → AllByRecursion (λ (y : Visit). a + 1 ≤ y.letter) vs → AllByRecursion (λ (y : Visit). a < y.letter) vs
      more [] all = tt
      more (v ∷ vs) all = (omega (arith, all.0), more vs all.1)

  raised : (a : ℕ) (back : List Entry) → Rising a back → IfSome (first_of back) (λ e. a < e.letter) → Rising (a + 1) back
  raised a [] rises high = tt
  raised a (e ∷ back) rises high = (omega (arith, high), rises.1)

  no_calls_in : not (m == 0) ≡ false → m ≡ 0
  no_calls_in h = elim (cases_Bool (m == 0)) [
    | inl e ↦ eqb-true m 0 e
    | inr e ↦ (let bad : true ≡ false = sym (ap not e) ∙ h in absurd cc)
  ]

  pub split_missed : (a next : ℕ) (es back : List Entry) → a < letters → Cut a next es back → IfSome (first_of back) (λ e. a < e.letter) →
      IsSplit a (from next es) (missing_visit m a) (from (a + 1) back) × Rising (a + 1) back
  split_missed a next es back within cut high = (
    record {
      front = cut.front;
      present = not (m == 0);
      parts = cut.parts ∙ ap (λ vs. cut.front ++ vs) (missed_at a back within high);
      low = cut.low;
      high = above a back (raised a back cut.rises high);
      letter = refl;
      absent = λ h. (no_calls_in h, refl);
    },
    raised a back cut.rises high,
  )

  pub split_found : (a next : ℕ) (es back rest : List Entry) (e : Entry) → Cut a next es back → back ≡ e ∷ rest → e.letter ≡ a →
      IsSplit a (from next es) (visit_of u e) (from (a + 1) rest) × Rising (a + 1) rest
  split_found a next es back rest e cut split here =
      let both : Rising a (e ∷ rest) = subst (Rising a) split cut.rises in
      let more : suc e.letter ≡ a + 1 = omega (arith, here) in
      let rises : Rising (a + 1) rest = subst (λ n. Rising n rest) more both.1 in (
        record {
          front = cut.front;
          present = true;
          parts = cut.parts ∙ ap (λ bs. cut.front ++ from a bs) split ∙ ap (λ vs. cut.front ++ vs) (found_at a e rest here);
          low = cut.low;
          high = above a rest rises;
          letter = letter_is u e ∙ here;
          absent = λ h. absurd cc;
        },
        rises,
      )
