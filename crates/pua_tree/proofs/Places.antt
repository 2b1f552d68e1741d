-- Where a key stands among entries in order, as a binary search finds it.
use Rattle.pua_tree.proofs.Common.{◌≡◌, ◌≢◌, ◌<◌, ◌≤◌, ℕ, zero, suc, List, [], ◌∷◌, length, get_or, not, map, Some, None, Result, Ok, Err}
use Rattle.pua_tree.proofs.Common.{Bool, true, false, cond, T, ◌&&◌, refl, sym, ap, subst, ◌∙◌, inl, inr, arith, Ordering, Less, Equal}
use Rattle.pua_tree.proofs.Common.{Greater, passes, is_eq, is_lt, IsTotalOrder, tied_itself, find, put, is_sorted, where_key, below_all}
use Rattle.pua_tree.proofs.Common.{by_order}
use Rattle.std.proofs.Common.{set}
use Rattle.std.proofs.Common.{IfOk, IfErr, IsTrue}
use Rattle.std.proofs.lemmas.Bool.{cases_lt}
use Rattle.std.specs.List.{insert, remove, HoldsAt}
use Rattle.std.specs.List.Sorted.{IsNonDecreasingBy, IsBinarySearchResult, IsSearchInRange}
use Rattle.std.specs.Ordering.{ordering_reverse, ordering_index}
use Rattle.std.specs.Cmp.{alike_right}

pub left : (a b : Bool) → T (a && b) → T a
left true b h = tt
left false b h = h

pub right : (a b : Bool) → T (a && b) → T b
right true b h = h
right false b h = absurd h

is_less : (o : Ordering) → T (is_lt o) → o ≡ Less
is_less Less h = refl
is_less Equal h = absurd h
is_less Greater h = absurd h

module _ {X K V : Type 0} {R : K → K → Ordering} (o : IsTotalOrder R) (entry : X → K × V) where
  -- how the element's key compares with q
  abbrev key_cmp : K → X → Ordering
  key_cmp q x = R (entry x).0 q

  turned : (a b : K) (r : Ordering) → R a b ≡ r → R b a ≡ ordering_reverse r
  turned a b r e = o.antisymm b a ∙ ap ordering_reverse e

  below_at : (k : K) (xs : List X) (i : ℕ) (d : X) → T (below_all R k (map entry xs)) → i < length xs → R k (entry (get_or xs i d)).0 ≡ Less
  below_at k [] i d h lt = absurd (omega arith)
  below_at k (x ∷ xs) zero d h lt = is_less _ (left _ _ h)
  below_at k (x ∷ xs) (suc i) d h lt = below_at k xs i d (right _ _ h) (omega arith)

  -- a later key is greater
  pub rises : (xs : List X) (i j : ℕ) (d : X) → T (is_sorted R (map entry xs)) → i < j → j < length xs →
      R (entry (get_or xs i d)).0 (entry (get_or xs j d)).0 ≡ Less
  rises [] i j d h lt le = absurd (omega arith)
  rises (x ∷ xs) zero zero d h lt le = absurd (omega arith)
  rises (x ∷ xs) zero (suc j) d h lt le = below_at _ xs j d (left _ _ h) (omega arith)
  rises (x ∷ xs) (suc i) zero d h lt le = absurd (omega arith)
  rises (x ∷ xs) (suc i) (suc j) d h lt le = rises xs i j d (right _ _ h) (omega arith) (omega arith)

  index_rises : (a b q : K) → R a b ≡ Less → ordering_index (R a q) ≤ ordering_index (R b q)
  index_rises a b q e =
      elim (R b q) as (λ r. R b q ≡ r → ordering_index (R a q) ≤ ordering_index r) [
        | Less ↦ λ p. rw (o.trans a b q e p) (omega arith)
        | Equal ↦ λ p. rw (sym (alike_right o b q a p) ∙ e) (omega arith)
        | Greater ↦ λ p. elim (R a q) as (λ r. ordering_index r ≤ 2) [ Less ↦ omega arith | Equal ↦ omega arith | Greater ↦ omega arith ]
      ] refl

  pub searchable : (xs : List X) (q : K) → T (is_sorted R (map entry xs)) → IsNonDecreasingBy (λ x. ordering_index (key_cmp q x)) xs
  searchable xs q h i j d le lt =
      elim (cases_lt i j) [
        | inl less ↦ index_rises _ _ q (rises xs i j d h less lt)
        | inr more ↦ let same : j ≡ i = omega arith in rw same (omega arith)
      ]

  found_at : (xs : List X) (q : K) (i : ℕ) (d : X) → T (is_sorted R (map entry xs)) → i < length xs → key_cmp q (get_or xs i d) ≡ Equal →
      find R q (map entry xs) ≡ Some (entry (get_or xs i d)).1
  found_at [] q i d h lt e = absurd (omega arith)
  found_at (x ∷ xs) q zero d h lt e = ap (λ r. cond (is_eq r) (Some (entry x).1) (find R q (map entry xs))) (turned _ _ Equal e)
  found_at (x ∷ xs) q (suc i) d h lt e =
      let before : R (entry x).0 q ≡ Less = sym (alike_right o _ q (entry x).0 e) ∙ below_at _ xs i d (left _ _ h) (omega arith) in
      ap (λ r. cond (is_eq r) (Some (entry x).1) (find R q (map entry xs))) (turned _ _ Less before) ∙
      found_at xs q i d (right _ _ h) (omega arith) e

  missed : (xs : List X) (q : K) → ((k : ℕ) (d : X) → k < length xs → key_cmp q (get_or xs k d) ≢ Equal) → find R q (map entry xs) ≡ None
  missed [] q h = refl
  missed (x ∷ xs) q h =
      elim (R q (entry x).0) as (λ r. R q (entry x).0 ≡ r → cond (is_eq r) (Some (entry x).1) (find R q (map entry xs)) ≡ None) [
        | Less ↦ λ p. missed xs q (λ k d lt. h (suc k) d (omega arith))
        | Equal ↦ λ p. absurd (h 0 x (omega arith) (turned _ _ Equal p))
        | Greater ↦ λ p. missed xs q (λ k d lt. h (suc k) d (omega arith))
      ] refl

  -- the entry goes to the place between the lesser and the greater keys
  put_at : (xs : List X) (q : K) (v : V) (i : ℕ) → i ≤ length xs → ((k : ℕ) (d : X) → k < i → key_cmp q (get_or xs k d) ≡ Less) →
      ((d : X) → i < length xs → key_cmp q (get_or xs i d) ≡ Greater)
      → put R q v (map entry xs) ≡ insert (map entry xs) i (q, v)
  put_at [] q v zero le below above = refl
  put_at [] q v (suc i) le below above = absurd (omega arith)
  put_at (x ∷ xs) q v zero le below above =
      ap (λ r. by_order r ((q, v) ∷ entry x ∷ map entry xs) (((entry x).0, v) ∷ map entry xs) (entry x ∷ put R q v (map entry xs)))
      (turned _ _ Greater (above x (omega arith)))
  put_at (x ∷ xs) q v (suc i) le below above =
      ap (λ r. by_order r ((q, v) ∷ entry x ∷ map entry xs) (((entry x).0, v) ∷ map entry xs) (entry x ∷ put R q v (map entry xs)))
      (turned _ _ Less (below 0 x (omega arith)))
      ∙ ap (λ es. entry x ∷ es) (put_at xs q v i (omega arith) (λ k d lt. below (suc k) d (omega arith)) (λ d lt. above d (omega arith)))

  -- what a binary search by key answers
  pub found_place : (xs : List X) (q : K) (r : Result ℕ ℕ) → IsTrue (is_sorted R (map entry xs)) → IsSearchInRange r (length xs) →
      IsBinarySearchResult (key_cmp q) xs r
      → IfOk r (λ i. (i < length xs) × HoldsAt (λ x. find R q (map entry xs) ≡ Some (entry x).1) xs i)
  found_place xs q (Ok i) h bound p = (bound, λ d. found_at xs q i d (passes _ h) bound (p d))
  found_place xs q (Err i) h bound p = tt

  pub missing_place : (xs : List X) (q : K) (r : Result ℕ ℕ) → IsTrue (is_sorted R (map entry xs)) → IsSearchInRange r (length xs) →
      IsBinarySearchResult (key_cmp q) xs r
      → IfErr r (λ i. (i ≤ length xs) × (find R q (map entry xs) ≡ None))
  missing_place xs q (Ok i) h bound p = tt
  missing_place xs q (Err i) h bound p =
      let parts = p (searchable xs q (passes _ h)) in (
        bound,
        missed xs q (λ k d lt e. elim (cases_lt k i) [
          | inl less ↦ let other : key_cmp q (get_or xs k d) ≡ Less = parts.0 k d (omega arith) less in cc
          | inr more ↦ let other : key_cmp q (get_or xs k d) ≡ Greater = parts.1 k d more lt in cc
        ]),
      )

  pub put_place : (xs : List X) (q : K) (r : Result ℕ ℕ) → IsTrue (is_sorted R (map entry xs)) → IsSearchInRange r (length xs) →
      IsBinarySearchResult (key_cmp q) xs r
      → IfErr r (λ i. (v : V) → put R q v (map entry xs) ≡ insert (map entry xs) i (q, v))
  put_place xs q (Ok i) h bound p = tt
  put_place xs q (Err i) h bound p =
      let parts = p (searchable xs q (passes _ h)) in
      λ v. put_at xs q v i bound (λ k d lt. parts.0 k d (omega arith) lt) (λ d lt. parts.1 i d (omega arith) lt)

  pub key_place : (exact : (a b : K) → R a b ≡ Equal → a ≡ b) (xs : List X) (q : K) (r : Result ℕ ℕ) →
      IsBinarySearchResult (key_cmp q) xs r → IfOk r (λ i. HoldsAt (λ x. (entry x).0 ≡ q) xs i)
  key_place exact xs q (Ok i) p = λ d. exact _ _ (p d)
  key_place exact xs q (Err i) p = tt

  -- the entries without one at a place
  keep_above : (k : K) (es : List (K × V)) → T (below_all R k es) → where_key R (λ other. not (is_eq (R k other))) es ≡ es
  keep_above k [] h = refl
  keep_above k (e ∷ es) h =
      let rest = keep_above k es (right _ _ h) in
      ap (λ r. cond (not (is_eq r)) (e ∷ where_key R (λ other. not (is_eq (R k other))) es)
      (where_key R (λ other. not (is_eq (R k other))) es)) (is_less _ (left _ _ h)) ∙ ap (λ l. e ∷ l) rest

  pub removed_at : (xs : List X) (q : K) (i : ℕ) → T (is_sorted R (map entry xs)) → i < length xs → HoldsAt (λ x. (entry x).0 ≡ q) xs i
      → map entry (remove xs i) ≡ where_key R (λ other. not (is_eq (R q other))) (map entry xs)
  removed_at [] q i h lt e = absurd (omega arith)
  removed_at (x ∷ xs) q zero h lt e =
      let rest = where_key R (λ other. not (is_eq (R q other))) (map entry xs) in
      let tie : R q (entry x).0 ≡ Equal = ap (R q) (e x) ∙ tied_itself o q in
      sym (ap (λ r. cond (not (is_eq r)) (entry x ∷ rest) rest) tie ∙
      keep_above q (map entry xs) (subst (λ k. T (below_all R k (map entry xs))) (e x) (left _ _ h)))
  removed_at (x ∷ xs) q (suc i) h lt e =
      let rest = where_key R (λ other. not (is_eq (R q other))) (map entry xs) in
      let before : R (entry x).0 q ≡ Less = sym (ap (R (entry x).0) (e x)) ∙ below_at _ xs i x (left _ _ h) (omega arith) in
      ap (λ l. entry x ∷ l) (removed_at xs q i (right _ _ h) (omega arith) e)
      ∙ sym (ap (λ r. cond (not (is_eq r)) (entry x ∷ rest) rest) (turned _ _ Less before))

  pub absent_removed : (q : K) (es : List (K × V)) → find R q es ≡ None → where_key R (λ other. not (is_eq (R q other))) es ≡ es
  absent_removed q [] h = refl
  absent_removed q (e ∷ es) h =
      elim (is_eq (R q e.0)) as (λ b. cond b (Some e.1) (find R q es) ≡ None →
      cond (not b) (e ∷ where_key R (λ other. not (is_eq (R q other))) es) (where_key R (λ other. not (is_eq (R q other))) es) ≡ e ∷ es) [
        | true ↦ λ some. absurd (cc)
        | false ↦ λ none. ap (λ l. e ∷ l) (absent_removed q es none)
      ] h

  -- the entries with one in another's place, or at a new one
  pub replaced_at : (xs : List X) (q : K) (v : V) (i : ℕ) (y : X) → T (is_sorted R (map entry xs)) → i < length xs →
      HoldsAt (λ x. (entry x).0 ≡ q) xs i → entry y ≡ (q, v)
      → map entry (set xs i y) ≡ put R q v (map entry xs)
  replaced_at [] q v i y h lt e new = absurd (omega arith)
  replaced_at (x ∷ xs) q v zero y h lt e new =
      let tie : R q (entry x).0 ≡ Equal = ap (R q) (e x) ∙ tied_itself o q in
      let same : entry y ≡ ((entry x).0, v) = new ∙ ap (λ (k : K). (k, v)) (sym (e x)) in
      ap (λ l. l ∷ map entry xs) same
      ∙ sym (ap (λ r. by_order r ((q, v) ∷ entry x ∷ map entry xs) (((entry x).0, v) ∷ map entry xs) (entry x ∷ put R q v (map entry xs)))
      tie)
  replaced_at (x ∷ xs) q v (suc i) y h lt e new =
      let before : R (entry x).0 q ≡ Less = sym (ap (R (entry x).0) (e x)) ∙ below_at _ xs i x (left _ _ h) (omega arith) in
      ap (λ l. entry x ∷ l) (replaced_at xs q v i y (right _ _ h) (omega arith) e new)
      ∙ sym (ap (λ r. by_order r ((q, v) ∷ entry x ∷ map entry xs) (((entry x).0, v) ∷ map entry xs) (entry x ∷ put R q v (map entry xs)))
      (turned _ _ Less before))

pub inserted_at : {A B : Type 0} (f : A → B) (xs : List A) (i : ℕ) (x : A) → map f (insert xs i x) ≡ insert (map f xs) i (f x)
inserted_at f [] zero x = refl
inserted_at f [] (suc i) x = refl
inserted_at f (y ∷ xs) zero x = refl
inserted_at f (y ∷ xs) (suc i) x = ap (λ l. f y ∷ l) (inserted_at f xs i x)
