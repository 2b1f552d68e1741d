-- The letters of an open state, one after another.
use Rattle.pua_steps.proofs.Common.{call_count, ℕ, zero, suc, ◌+◌, ◌-◌, ◌<◌, ◌≤◌, ◌≡◌, List, [], ◌∷◌, ◌++◌, Bool, true, false, not, cond, nat_lt}
use Rattle.pua_steps.proofs.Common.{nat_le, ◌==◌, refl, ap, arith, sym, ◌∙◌, length, map, drop, get_or, Some, None, Option, option_map, inl}
use Rattle.pua_steps.proofs.Common.{inr, subst, ◌^◌, IfSome, range_with_len, AllByRecursion, and_parts, cases_Bool, entries_at, missing_at}
use Rattle.pua_steps.proofs.Common.{visit_of, missing_visit, gap, has_gap, end_of, first_of, visits_from, IsEntry, IsVisit, IsState, Rising}
use Rattle.pua_steps.proofs.Common.{Entry, Row, Steps}
use Rattle.std.proofs.lemmas.Bool.{and_cases, not-true, ltb-true, ltb-false, leb-true}
use Rattle.std.proofs.lemmas.List.{get_or-map}
use Rattle.pua_steps.specs.Table.{entries_in, missing_in}

gap_more : (m next n : ℕ) → (m == 0) ≡ false → gap m next (suc n) ≡ missing_visit m next ∷ gap m (next + 1) n
unfolding gap
gap_more m next n some = rw some refl

gap_none : (m next : ℕ) → gap m next 0 ≡ []
unfolding gap
gap_none m next = elim (m == 0) as (λ b. cond b [] (map (missing_visit m) (range_with_len next 0)) ≡ []) [ true ↦ refl | false ↦ refl ]

gap_empty : (m next n : ℕ) → (m == 0) ≡ true → gap m next n ≡ []
unfolding gap
gap_empty m next n none = rw none refl

-- no letter without an entry comes next
no_gap : (m next end : ℕ) → has_gap m next end ≡ false → gap m next (end - next) ≡ []
no_gap m next end none =
    elim (cases_Bool (m == 0)) [
      | inl e ↦ gap_empty m next (end - next) e
      | inr e ↦
          let past : end ≤ next =
          ltb-false next end (elim (and_cases (not (m == 0)) (nat_lt next end) none) [ inl f ↦ absurd (clash e f) | inr f ↦ f ]) in
          let zero : end - next ≡ 0 = omega (arith, past) in
          ap (gap m next) zero ∙ gap_none m next
    ]
  where
    clash : {b : Bool} → b ≡ false → not b ≡ false → ⊥
    clash {b} e f = let bad : true ≡ false = sym (ap not e) ∙ f in cc

some_gap : (m next end : ℕ) → has_gap m next end ≡ true →
    gap m next (end - next) ≡ missing_visit m next ∷ gap m (next + 1) (end - (next + 1))
some_gap m next end some =
    let both = and_parts (not (m == 0)) (nat_lt next end) some in
    let less : next < end = ltb-true next end both.1 in
    let more : end - next ≡ suc (end - (next + 1)) = omega (arith, less) in
    ap (gap m next) more ∙ gap_more m next (end - (next + 1)) (not-true (m == 0) both.0)

module _ (letters m u next : ℕ) where
  pub from_gap : (es : List Entry) → has_gap m next (end_of letters (first_of es)) ≡ true →
      visits_from letters m u next es ≡ missing_visit m next ∷ visits_from letters m u (next + 1) es
  unfolding visits_from
  from_gap [] some = some_gap m next letters some
  from_gap (e ∷ es) some = ap (λ vs. vs ++ visit_of u e ∷ visits_from letters m u (suc e.letter) es) (some_gap m next e.letter some)

  pub from_entry : (e : Entry) (es : List Entry) → has_gap m next e.letter ≡ false →
      visits_from letters m u next (e ∷ es) ≡ visit_of u e ∷ visits_from letters m u (e.letter + 1) es
  unfolding visits_from
  from_entry e es none =
      let more : suc e.letter ≡ e.letter + 1 = omega arith in
      ap (λ vs. vs ++ visit_of u e ∷ visits_from letters m u (suc e.letter) es) (no_gap m next e.letter none) ∙
      ap (λ n. visit_of u e ∷ visits_from letters m u n es) more

  pub from_end : has_gap m next letters ≡ false → visits_from letters m u next [] ≡ []
  unfolding visits_from
  from_end none = no_gap m next letters none

pub none_at : (es : List Entry) → first_of es ≡ None → es ≡ []
none_at [] h = refl
none_at (e ∷ es) h = absurd cc

pub some_at : (es : List Entry) (place : ℕ) (e : Entry) → first_of (drop place es) ≡ Some e →
    (place < length es) × (drop place es ≡ e ∷ drop (place + 1) es)
some_at [] zero e h = absurd cc
some_at [] (suc place) e h = absurd cc
some_at (x ∷ es) zero e h = (omega arith, ap (λ o. unwrap o) h)
  where
    unwrap : Option Entry → List Entry
    unwrap None = x ∷ es
    unwrap (Some y) = y ∷ es
some_at (x ∷ es) (suc place) e h =
    let more = some_at es place e h in
    let next : suc (place + 1) ≡ suc place + 1 = omega arith in
    (omega (arith, more.0), more.1 ∙ ap (λ n. e ∷ drop n (x ∷ es)) next)

pub row_entries : (t : Steps) (d : ℕ) (r : Row) → d < length t.rows.items → r ≡ get_or t.rows.items d r → entries_at t d ≡ r.entries.items
row_entries t d r h is = get_or-map entries_in t.rows.items d r [] h ∙ ap entries_in (sym is)

pub row_missing : (t : Steps) (d : ℕ) (r : Row) → d < length t.rows.items → r ≡ get_or t.rows.items d r → missing_at t d ≡ r.missing
row_missing t d r h is = get_or-map missing_in t.rows.items d r 0 h ∙ ap missing_in (sym is)

pub all_at : {A : Type 0} (P : A → Type 0) (xs : List A) → AllByRecursion P xs → (i : ℕ) (x : A) (more : List A) → drop i xs ≡ x ∷ more →
    P x
all_at P [] all zero x more e = absurd cc
all_at P [] all (suc i) x more e = absurd cc
all_at P (y ∷ xs) all zero x more e = subst P (ap (λ (ys : List _). first y ys) e) all.0
  where
    first : {A : Type 0} → A → List A → A
    first y [] = y
    first y (x ∷ xs) = x
all_at P (y ∷ xs) all (suc i) x more e = all_at P xs all.1 i x more e

-- what is left of a state whose next entry is this
pub rises_on : (next : ℕ) (es : List Entry) (e : Entry) (more : List Entry) → es ≡ e ∷ more → Rising next es → Rising (e.letter + 1) more
rises_on next es e more split rises =
    let both : Rising next (e ∷ more) = subst (Rising next) split rises in
    let same : suc e.letter ≡ e.letter + 1 = omega arith in
    subst (λ n. Rising n more) same both.1

pub visit_is : (t : Steps) (used : ℕ) (e : Entry) → IsEntry t e → used ≤ 32 → IsVisit t (visit_of used e)
unfolding visit_of
visit_is t used e is low =
    elim (cases_Bool (nat_le (used + e.links) 32)) [
      | inl h ↦
          let fits : used + e.links ≤ 32 = leb-true (used + e.links) 32 h in
          rw h (record { letter = is.letter; calls = is.all; behind = leads e.to is.to fits })
      | inr h ↦ rw h (record { letter = is.letter; calls = is.kept; behind = tt })
    ]
  where
    leads : (to : Option ℕ) → IfSome to (λ d. d < length t.rows.items) → used + e.links ≤ 32 →
        IfSome (option_map (λ d. record { dir = d; used = used + e.links }) to) (λ s. IsState t s)
    leads None h fits = tt
    leads (Some d) h fits = record { dir = h; used = fits }

-- a letter without an entry that comes next
pub gap_is : (t : Steps) (m next : ℕ) (es : List Entry) → m < 2 ^ call_count → AllByRecursion (λ e. IsEntry t e) es →
    has_gap m next (end_of t.letters (first_of es)) ≡ true → IsVisit t (missing_visit m next)
gap_is t m next es fits all some =
    let less : next < end_of t.letters (first_of es) =
    ltb-true next (end_of t.letters (first_of es)) (and_parts (not (m == 0)) (nat_lt next (end_of t.letters (first_of es))) some).1 in
    record { letter = omega (arith, less, end_within es all); calls = fits; behind = tt }
  where
    end_within : (es : List Entry) → AllByRecursion (λ e. IsEntry t e) es → end_of t.letters (first_of es) ≤ t.letters
    end_within [] all = omega arith
    end_within (e ∷ es) all = omega (arith, all.0.letter)
