-- Where a letter stands among letters that rise, as a binary search finds it.
use Rattle.pua_audit.proofs.Common.{◌≡◌, ◌≢◌, ℕ, zero, suc, ◌<◌, ◌≤◌, List, [], ◌∷◌, ◌++◌, Bool, false, cond, Some, None, length, map}
use Rattle.pua_audit.proofs.Common.{get_or, reverse, refl, sym, ap, ◌∙◌, inl, inr, arith, find, cases_lt, map-append, Less, Equal, Greater}
use Rattle.pua_audit.proofs.Common.{ordering_reverse, tied_itself, nat_list_cmp_total, nat_cmp-IsAntisymmetric, by_order, same_bytes}
use Rattle.pua_audit.proofs.Common.{name_cmp, with_name, distinct_names, Rises, with_names, other_word}
use Rattle.std.proofs.Common.{Result, Ok, Err}
use Rattle.std.proofs.Common.{Bor}
use Rattle.std.specs.List.{insert}
use Rattle.std.specs.List.Sorted.{IsNonDecreasingBy, IsBinarySearchResult, IsSearchInRange}
use Rattle.std.proofs.lemmas.List.{reverse-append}
use Rattle.std.proofs.lemmas.List.Sorted.{IsNonDecreasingBy-from_default}
use Rattle.std.specs.declared.cmp.Ordering.{Ordering}
use Rattle.std.specs.Ordering.{ordering_index}
use Rattle.std.specs.Cmp.{alike_right}
use Rattle.std.specs.FinMap.{slice_cmp-IsAntisymmetric}
use Rattle.pua_audit.specs.Alphabets.{IsPlaced}
use Rattle.pua_audit.proofs.Moves.{all_at_index}

pub turned : (a b : List ℕ) (o : Ordering) → name_cmp a b ≡ o → name_cmp b a ≡ ordering_reverse o
turned a b o e = nat_list_cmp_total.antisymm b a ∙ ap ordering_reverse e

same_name : (a b : List ℕ) → name_cmp a b ≡ Equal → a ≡ b
same_name = slice_cmp-IsAntisymmetric nat_cmp-IsAntisymmetric

-- a later letter is greater
pub later : (ms : List (List ℕ)) → Rises name_cmp ms → (i j : ℕ) → i < j → j < length ms → name_cmp (get_or ms i []) (get_or ms j []) ≡ Less
later [] rises i j less short = absurd (omega (arith, short))
later (m ∷ ms) rises zero zero less short = absurd (omega (arith, less))
later (m ∷ ms) rises zero (suc j) less short = all_at_index (λ y. name_cmp m y ≡ Less) ms [] rises.0 j (omega (arith, short))
later (m ∷ ms) rises (suc i) zero less short = absurd (omega (arith, less))
later (m ∷ ms) rises (suc i) (suc j) less short = later ms rises.1 i j (omega (arith, less)) (omega (arith, short))

index_rises : (a b q : List ℕ) → name_cmp a b ≡ Less → ordering_index (name_cmp a q) ≤ ordering_index (name_cmp b q)
index_rises a b q e =
    elim (name_cmp b q) as (λ r. name_cmp b q ≡ r → ordering_index (name_cmp a q) ≤ ordering_index r) [
      | Less ↦ λ p. rw (nat_list_cmp_total.trans a b q e p) (omega arith)
      | Equal ↦ λ p. rw (sym (alike_right nat_list_cmp_total b q a p) ∙ e) (omega arith)
      | Greater ↦ λ p. elim (name_cmp a q) as (λ r. ordering_index r ≤ 2) [
        | Less ↦ omega arith
        | Equal ↦ omega arith
        | Greater ↦ omega arith
      ]
    ] refl

-- among letters before and behind it a letter is put between them
put_between : (n : List ℕ) (ms : List (List ℕ)) (i : ℕ) → i ≤ length ms → ((k : ℕ) → k < i → name_cmp (get_or ms k []) n ≡ Less) →
    ((k : ℕ) → i ≤ k → k < length ms → name_cmp (get_or ms k []) n ≡ Greater)
    → with_name n ms ≡ insert ms i n
put_between n [] zero within less greater = refl
put_between n [] (suc i) within less greater = absurd (omega (arith, within))
put_between n (m ∷ ms) zero within less greater =
    ap (λ o. by_order o (n ∷ m ∷ ms) (m ∷ ms) (m ∷ with_name n ms)) (turned m n Greater (greater 0 (omega arith) (omega arith)))
put_between n (m ∷ ms) (suc i) within less greater =
    ap (λ o. by_order o (n ∷ m ∷ ms) (m ∷ ms) (m ∷ with_name n ms)) (turned m n Less (less 0 (omega arith)))
    ∙ ap (λ l. m ∷ l) (put_between n ms i (omega (arith, within)) (λ k h. less (suc k) (omega (arith, h)))
    (λ k h l. greater (suc k) (omega (arith, h)) (omega (arith, l))))

-- a letter that is there is not put again
pub put_there : (n : List ℕ) (ms : List (List ℕ)) (i : ℕ) → Rises name_cmp ms → i < length ms → get_or ms i [] ≡ n → with_name n ms ≡ ms
put_there n [] i rises short e = absurd (omega (arith, short))
put_there n (m ∷ ms) zero rises short e = ap (λ o. by_order o (n ∷ m ∷ ms) (m ∷ ms) (m ∷ with_name n ms)) (ap (name_cmp n) e ∙
    tied_itself nat_list_cmp_total n)
put_there n (m ∷ ms) (suc i) rises short e =
    let before : name_cmp m n ≡ Less = ap (name_cmp m) (sym e) ∙ later (m ∷ ms) rises 0 (suc i) (omega arith) short in
    ap (λ o. by_order o (n ∷ m ∷ ms) (m ∷ ms) (m ∷ with_name n ms)) (turned m n Less before) ∙
    ap (λ l. m ∷ l) (put_there n ms i rises.1 (omega (arith, short)) e)

-- a letter is not found where none is the same
pub none_is : (test : List ℕ → Bool) (ms : List (List ℕ)) → ((k : ℕ) → k < length ms → test (get_or ms k []) ≡ false) → find test ms ≡ None
none_is test [] others = refl
none_is test (m ∷ ms) others = ap (λ b. cond b (Some m) (find test ms)) (others 0 (omega arith)) ∙
    none_is test ms (λ k h. others (suc k) (omega (arith, h)))

not_itself : (n : List ℕ) (o : Ordering) → name_cmp n n ≡ o → o ≢ Equal → ⊥
not_itself n o e other = other (sym e ∙ tied_itself nat_list_cmp_total n)

Less≢Equal : ◌≢◌ {A = Ordering} Less Equal
Less≢Equal e = cc

Greater≢Equal : ◌≢◌ {A = Ordering} Greater Equal
Greater≢Equal e = cc

module _ (letters : List (List ℕ)) (q : List ℕ) (rises : Rises name_cmp letters) where
  searchable : IsNonDecreasingBy (λ l. ordering_index (name_cmp l q)) letters
  searchable = IsNonDecreasingBy-from_default (λ l. ordering_index (name_cmp l q)) letters [] (λ i j le short. elim (cases_lt i j) [
    | inl less ↦ index_rises _ _ q (later letters rises i j less short)
    | inr more ↦ let same : j ≡ i = omega arith in rw same (omega arith)
  ])

  -- what a binary search answers
  pub placed : (r : Result ℕ ℕ) → IsSearchInRange r (length letters) → IsBinarySearchResult (λ l. name_cmp l q) letters r →
      IsPlaced letters q r
  placed (Ok i) within equal = (within, same_name _ q (equal []))
  placed (Err i) within parted =
      let parts = parted searchable in
      let less : (k : ℕ) → k < i → name_cmp (get_or letters k []) q ≡ Less = λ k h. parts.0 k [] (omega (arith, h, within)) h in
      let greater : (k : ℕ) → i ≤ k → k < length letters → name_cmp (get_or letters k []) q ≡ Greater = λ k h l. parts.1 k [] h l in (
        within,
        put_between q letters i within less greater,
        none_is (same_bytes q) letters (λ k l. other_word q (get_or letters k []) (other k less greater l)),
      )
    where
      other : (k : ℕ) → ((k : ℕ) → k < i → name_cmp (get_or letters k []) q ≡ Less) →
          ((k : ℕ) → i ≤ k → k < length letters → name_cmp (get_or letters k []) q ≡ Greater) → k < length letters → q ≢ get_or letters k []
      other k less greater l e =
          elim (cases_lt k i) [
            | inl h ↦ not_itself q Less (ap (λ b. name_cmp b q) e ∙ less k h) Less≢Equal
            | inr h ↦ not_itself q Greater (ap (λ b. name_cmp b q) e ∙ greater k h l) Greater≢Equal
          ]

-- names in front of a list are put into the distinct names of that list
pub distinct_names-append : (xs ys : List (List ℕ)) → distinct_names (xs ++ ys) ≡ with_names xs (distinct_names ys)
distinct_names-append [] ys = refl
distinct_names-append (x ∷ xs) ys = ap (with_name x) (distinct_names-append xs ys)

-- names from the last one on, with one name more
pub one_more : (names : List (Bor (List ℕ))) (name : Bor (List ℕ)) (old now more : List (List ℕ)) →
    now ≡ with_names (reverse (map (λ n. n.now) names)) old → more ≡ with_name name.now now
    → more ≡ with_names (reverse (map (λ n. n.now) (names ++ name ∷ []))) old
one_more names name old now more so_far new =
    new ∙ ap (with_name name.now) so_far
    ∙ sym (ap (λ ns. with_names (reverse ns) old) (map-append (λ n. n.now) names (name ∷ [])) ∙
    ap (λ ns. with_names ns old) (reverse-append (map (λ n. n.now) names) (name.now ∷ [])))
