-- The frame and the visit that a search for a letter finds.
use Rattle.pua_steps.proofs.Common.{call_count, ℕ, zero, suc, ◌+◌, ◌<◌, ◌≤◌, ◌≡◌, List, [], ◌∷◌, Option, Some, None, cond, ◌==◌, refl, ap, arith, sym}
use Rattle.pua_steps.proofs.Common.{◌∙◌, length, take, drop, get_or, inl, inr, subst, ◌^◌, cases_Bool, cases_eq, eq-eqb, eqb-true, IfSome}
use Rattle.pua_steps.proofs.Common.{AllByRecursion, IsSplit, IsTable, IsState, IsVisit, IsEntry, Rising, visit_of, missing_visit, first_of}
use Rattle.pua_steps.proofs.Common.{visits_from, missing_at, AreListsOf, IsOpen, within, span_of, list_of, narrow_of, rest_of, State, Visit}
use Rattle.pua_steps.proofs.Common.{Entry, Steps, Frame, Span, Lists}
use Rattle.pua_steps.specs.Table.{with_letter}
use Rattle.pua_steps.specs.declared.live.Live as table
use Rattle.pua_steps.proofs.Visits.{some_at, all_at, visit_is}
use Rattle.std.proofs.lemmas.List.{drop-drop}
use Rattle.pua_steps.proofs.WalkLists.{all_within, list_rises}
use Rattle.pua_steps.proofs.Splitting.{Cut, cut_at, split_missed, split_found}

abbrev pub no_entry : Entry
no_entry = record { letter = 0; all = 0; kept = 0; links = 0; to = None }

-- letters rise along entries

least : (next : ℕ) (es : List Entry) (d : Entry) → Rising next es → (j : ℕ) → j < length es → next ≤ (get_or es j d).letter
least next [] d rises j h = absurd (omega (arith, h))
least next (e ∷ es) d rises zero h = rises.0
least next (e ∷ es) d rises (suc j) h = omega (arith, least (suc e.letter) es d rises.1 j (omega (arith, h)), rises.0)

pub upward : (next : ℕ) (es : List Entry) (d : Entry) → Rising next es → (i j : ℕ) → i ≤ j → j < length es →
    (get_or es i d).letter ≤ (get_or es j d).letter
upward next [] d rises i j le h = absurd (omega (arith, h))
upward next (e ∷ es) d rises zero zero le h = omega arith
upward next (e ∷ es) d rises zero (suc j) le h = omega (arith, least (suc e.letter) es d rises.1 j (omega (arith, h)))
upward next (e ∷ es) d rises (suc i) zero le h = absurd (omega (arith, le))
upward next (e ∷ es) d rises (suc i) (suc j) le h = upward (suc e.letter) es d rises.1 i j (omega (arith, le)) (omega (arith, h))

-- what a search says of the entries before its place and of the first one from it on

pub before_place : (a i : ℕ) (es : List Entry) (d : Entry) → i ≤ length es → ((k : ℕ) → k < i → (get_or es k d).letter < a) →
    AllByRecursion (λ e. e.letter < a) (take i es)
before_place a zero [] d h each = tt
before_place a zero (e ∷ es) d h each = tt
before_place a (suc i) [] d h each = tt
before_place a (suc i) (e ∷ es) d h each =
    (each 0 (omega arith), before_place a i es d (omega (arith, h)) (λ k less. each (suc k) (omega (arith, less))))

pub after_place : (a i : ℕ) (es : List Entry) (d : Entry) → ((k : ℕ) → i ≤ k → k < length es → a ≤ (get_or es k d).letter) →
    IfSome (first_of (drop i es)) (λ e. a ≤ e.letter)
after_place a zero [] d each = tt
after_place a zero (e ∷ es) d each = each 0 (omega arith) (omega arith)
after_place a (suc i) [] d each = tt
after_place a (suc i) (e ∷ es) d each = after_place a i es d (λ k low less. each (suc k) (omega (arith, low)) (omega (arith, less)))

-- whether the first entry has the letter

with_none : (a : ℕ) (o : Option Entry) → IfSome o (λ e. a ≤ e.letter) → with_letter a o ≡ None → IfSome o (λ e. a < e.letter)
with_none a None high h = tt
with_none a (Some x) high h =
    elim (cases_eq x.letter a) [
      | inl same ↦ (let bad : Some x ≡ None = ap (λ b. cond b (Some x) None) (sym (eq-eqb x.letter a same)) ∙ h in absurd cc)
      | inr apart ↦ omega (arith, high, apart)
    ]

with_some : (a : ℕ) (o : Option Entry) (e : Entry) → with_letter a o ≡ Some e → (o ≡ Some e) × (e.letter ≡ a)
with_some a None e h = absurd cc
with_some a (Some x) e h =
    elim (cases_Bool (x.letter == a)) [
      | inl same ↦
          let got : Some x ≡ Some e = ap (λ b. cond b (Some x) None) (sym same) ∙ h in
          let letters : x.letter ≡ e.letter = ap (λ (o : Option Entry). elim o [ None ↦ 0 | Some y ↦ y.letter ]) got in
          (got, sym letters ∙ eqb-true x.letter a same)
      | inr apart ↦ (let bad : None ≡ Some e = ap (λ b. cond b (Some x) None) (sym apart) ∙ h in absurd cc)
    ]

module _ (t : Steps) (s : State) (es : List Entry) (a p : ℕ) (is : IsState t s) (within_all : a < t.letters)
    (known : AllByRecursion (λ e. IsEntry t e) es) (rises : Rising 0 es)
    (low : AllByRecursion (λ e. e.letter < a) (take p es)) (high : IfSome (first_of (drop p es)) (λ e. a ≤ e.letter)) where
  abbrev m : ℕ
  m = missing_at t s.dir

  abbrev from : ℕ → List Entry → List Visit
  from next xs = visits_from t.letters m s.used next xs

  cut : Cut t.letters m s.used a 0 es (drop p es)
  cut = cut_at t.letters m s.used a p 0 es (omega arith) within_all rises low high

  missed_parts : with_letter a (first_of (drop p es)) ≡ None → IsSplit a (from 0 es) (missing_visit m a) (from (a + 1) (drop p es)) ×
      Rising (a + 1) (drop p es)
  missed_parts none = split_missed t.letters m s.used a 0 es (drop p es) within_all cut (with_none a (first_of (drop p es)) high none)

  module _ (e : Entry) (some : with_letter a (first_of (drop p es)) ≡ Some e) where
    named : (first_of (drop p es) ≡ Some e) × (e.letter ≡ a)
    named = with_some a (first_of (drop p es)) e some

    stands : (p < length es) × (drop p es ≡ e ∷ drop (p + 1) es)
    stands = some_at es p e named.0

    entry_found : IsEntry t e
    entry_found = all_at (λ e. IsEntry t e) es known p e (drop (p + 1) es) stands.1

    found_parts : IsSplit a (from 0 es) (visit_of s.used e) (from (a + 1) (drop (p + 1) es)) × Rising (a + 1) (drop (p + 1) es)
    found_parts = split_found t.letters m s.used a 0 es (drop p es) (drop (p + 1) es) e cut stands.1 named.1

-- the same by where the list stands
module _ (t : Steps) (v : table.Live) (limit : ℕ) (ls : Lists) (known : IsTable t) (listed : AreListsOf t v limit ls) (l : ℕ)
    (short : l < limit) (s : State) (is : IsState t s) (a : ℕ) (within_all : a < t.letters)
    (span : Span) (there : span ≡ span_of ls l s.dir) where
  abbrev part : List Entry
  part = within ls.entries.items span.place span.end

  same : part ≡ list_of t v l s.dir
  same = (λ i. within ls.entries.items (there i).place (there i).end) ∙ ((listed.layers l short).stand s.dir is.dir).same

  inside : span.end ≤ length ls.entries.items
  inside = subst (λ s. s.end ≤ length ls.entries.items) (sym there) ((listed.layers l short).stand s.dir is.dir).inside

  pub part_rises : Rising 0 part
  part_rises = subst (Rising 0) (sym same) (list_rises t v l s.dir known is.dir)

  part_known : AllByRecursion (λ e. IsEntry t e) part
  part_known = all_within (λ e. IsEntry t e) ls.entries.items span.place span.end listed.known

  part_from : (place q : ℕ) → place ≡ span.place + q → within ls.entries.items place span.end ≡ drop q part
  part_from place q e = ap (λ n. within ls.entries.items n span.end) e ∙ sym (drop-drop q span.place (take span.end ls.entries.items))

  abbrev frame_at : ℕ → Frame
  frame_at place = record { state = s; next = a + 1; place = place; end = span.end }

  opens : (place q : ℕ) → place ≡ span.place + q → Rising (a + 1) (drop q part) → IsOpen t ls (frame_at place)
  opens place q e rises = record { state = is; inside = inside; rises = subst (Rising (a + 1)) (sym (part_from place q e)) rises }

  splits : (place q : ℕ) (x y : Visit) → place ≡ span.place + q → y ≡ x →
      IsSplit a (visits_from t.letters (missing_at t s.dir) s.used 0 part) x (visits_from t.letters (missing_at t s.dir) s.used (a + 1)
      (drop q part))
      → IsSplit a (narrow_of t v l s) y (rest_of t ls (frame_at place))
  unfolding narrow_of rest_of
  splits place q x y e visit split =
      subst (λ ws. IsSplit a (visits_from t.letters (missing_at t s.dir) s.used 0 ws) y (visits_from t.letters (missing_at t s.dir) s.used
      (a + 1) (within ls.entries.items place span.end))) same
      (subst (λ ws. IsSplit a (visits_from t.letters (missing_at t s.dir) s.used 0 part) y
      (visits_from t.letters (missing_at t s.dir) s.used (a + 1) ws)) (sym (part_from place q e))
      (subst (λ z. IsSplit a (visits_from t.letters (missing_at t s.dir) s.used 0 part) z (visits_from t.letters (missing_at t s.dir) s.used
      (a + 1) (drop q part))) (sym visit) split))

  module _ (p : ℕ) (low : AllByRecursion (λ e. e.letter < a) (take p part)) (high : IfSome (first_of (drop p part)) (λ e. a ≤ e.letter))
    where
      module _ (none : with_letter a (first_of (within ls.entries.items (span.place + p) span.end)) ≡ None) where
        lacks : with_letter a (first_of (drop p part)) ≡ None
        lacks = ap (λ es. with_letter a (first_of es)) (sym (part_from (span.place + p) p refl)) ∙ none

        pub missed_open : IsOpen t ls (frame_at (span.place + p))
        missed_open = opens (span.place + p) p refl (missed_parts t s part a p is within_all part_known part_rises low high lacks).1

        module _ (m : ℕ) (here : m ≡ missing_at t s.dir) where
          pub missed_visit : IsVisit t (record { letter = a; calls = m; behind = None })
          missed_visit = record {
            letter = within_all;
            calls = subst (λ k. k < 2 ^ call_count) (sym here) (known s.dir is.dir).missing;
            behind = tt;
          }

          pub missed_split : IsSplit a (narrow_of t v l s) (record { letter = a; calls = m; behind = None })
              (rest_of t ls (frame_at (span.place + p)))
          missed_split =
              splits (span.place + p) p (missing_visit (missing_at t s.dir) a) (record { letter = a; calls = m; behind = None })
              refl
              (ap (λ k. missing_visit k a) here)
              (missed_parts t s part a p is within_all part_known part_rises low high lacks).0

      module _ (e : Entry) (some : with_letter a (first_of (within ls.entries.items (span.place + p) span.end)) ≡ Some e) where
        has : with_letter a (first_of (drop p part)) ≡ Some e
        has = ap (λ es. with_letter a (first_of es)) (sym (part_from (span.place + p) p refl)) ∙ some

        after : span.place + p + 1 ≡ span.place + (p + 1)
        after = omega arith

        pub found_entry : IsEntry t e
        found_entry = entry_found t s part a p is within_all part_known part_rises low high e has

        pub found_visit : (x : Visit) → x ≡ visit_of s.used e → IsVisit t x
        found_visit x visit = subst (IsVisit t) (sym visit) (visit_is t s.used e found_entry is.used)

        pub found_open : IsOpen t ls (frame_at (span.place + p + 1))
        found_open = opens (span.place + p + 1) (p + 1) after (found_parts t s part a p is within_all part_known part_rises low high e
            has).1

        pub found_split : (x : Visit) → x ≡ visit_of s.used e →
            IsSplit a (narrow_of t v l s) x (rest_of t ls (frame_at (span.place + p + 1)))
        found_split x visit =
            splits (span.place + p + 1) (p + 1) (visit_of s.used e) x after visit (found_parts t s part a p is within_all part_known
            part_rises low high e has).0
