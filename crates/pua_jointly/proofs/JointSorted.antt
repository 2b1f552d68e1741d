-- Names in order are found by a search.
use Rattle.pua_jointly.proofs.Common.{◌≡◌, ◌<◌, ◌≤◌, ◌∙◌, ◌∷◌, [], ℕ, zero, suc, true, List, length, map, refl, sym, ap, arith, inl, inr}
use Rattle.pua_jointly.proofs.Common.{and_parts, None≢Some, same_Some, Some, Spot, spot_cmp, spots_total, among_contained}
use Rattle.std.specs.Prelude.{get_or, slice_get, Err}
use Rattle.std.specs.Cmp.{alike_right, tied_itself}
use Rattle.std.specs.FinMap.{is_sorted}
use Rattle.std.specs.FinMap.Entries.{below_all}
use Rattle.std.specs.List.{Contains}
use Rattle.std.specs.List.Sorted.{IsBinarySearchResult}
use Rattle.std.specs.Ordering.{is_eq, is_lt, ordering_index}
use Rattle.std.specs.declared.cmp.Ordering.{Ordering}
use Rattle.std.specs.declared.cmp.Ordering.TheVariants.{Equal, Greater, Less}
use Rattle.std.proofs.lemmas.Bool.{cases_lt, false≢true}
use Rattle.pua_jointly.specs.JointSetting.{AreInOrder, entry_of}
use Rattle.pua_jointly.specs.declared.crew.Entry.{Entry}
use Rattle.pua_jointly.proofs.JointPlaced.{among_got}

abbrev Row : Type 0
Row = Spot × ℕ

abbrev spot_of : Row → Spot
spot_of row = row.0

abbrev head : Spot → List Spot → Spot
head d [] = d
head d (x ∷ xs) = x

abbrev tail : List Spot → List Spot
tail [] = []
tail (x ∷ xs) = xs

is_less : (o : Ordering) → is_lt o ≡ true → o ≡ Less
is_less Less e = refl
is_less Equal e = absurd (false≢true e)
is_less Greater e = absurd (false≢true e)

-- a spot before all others is before each of them
below_at : (k : Spot) (es : List Row) (xs : List Entry) → below_all spot_cmp k es ≡ true → map entry_of xs ≡ map spot_of es → (j : ℕ) (d : Entry) →
    j < length xs → spot_cmp k (entry_of (get_or xs j d)) ≡ Less
below_at k es [] below same j d low = absurd (omega (arith, low))
below_at k [] (x ∷ xs) below same j d low = let l = ap length same in absurd (omega (arith, l))
below_at k (e ∷ es) (x ∷ xs) below same zero d low =
    ap (spot_cmp k) (ap (head e.0) same) ∙ is_less (spot_cmp k e.0) (and_parts (is_lt (spot_cmp k e.0)) _ below).0
below_at k (e ∷ es) (x ∷ xs) below same (suc j) d low =
    below_at k es xs (and_parts (is_lt (spot_cmp k e.0)) _ below).1 (ap tail same) j d (omega (arith, low))

index_rises : (a b q : Spot) → spot_cmp a b ≡ Less → ordering_index (spot_cmp a q) ≤ ordering_index (spot_cmp b q)
index_rises a b q e =
    elim (spot_cmp b q) as (λ r. spot_cmp b q ≡ r → ordering_index (spot_cmp a q) ≤ ordering_index r) [
      | Less ↦ λ p. rw (spots_total.trans a b q e p) (omega arith)
      | Equal ↦ λ p. rw (sym (alike_right spots_total b q a p) ∙ e) (omega arith)
      | Greater ↦ λ p. elim (spot_cmp a q) as (λ r. ordering_index r ≤ 2) [ Less ↦ omega arith | Equal ↦ omega arith | Greater ↦ omega arith ]
    ] refl

pub in_order : (es : List Row) (xs : List Entry) → is_sorted spot_cmp es ≡ true → map entry_of xs ≡ map spot_of es → AreInOrder xs
in_order es [] sorted same spot i j d le low = absurd (omega (arith, low))
in_order [] (x ∷ xs) sorted same spot i j d le low = let l = ap length same in absurd (omega (arith, l))
in_order (e ∷ es) (x ∷ xs) sorted same spot zero zero d le low = omega arith
in_order (e ∷ es) (x ∷ xs) sorted same spot zero (suc j) d le low =
    index_rises (entry_of x) (entry_of (get_or xs j d)) spot
    (ap (λ s. spot_cmp s (entry_of (get_or xs j d))) (ap (head e.0) same)
    ∙ below_at e.0 es xs (and_parts (below_all spot_cmp e.0 es) _ sorted).0 (ap tail same) j d (omega (arith, low)))
in_order (e ∷ es) (x ∷ xs) sorted same spot (suc i) zero d le low = absurd (omega (arith, le))
in_order (e ∷ es) (x ∷ xs) sorted same spot (suc i) (suc j) d le low =
    in_order es xs (and_parts (below_all spot_cmp e.0 es) _ sorted).1 (ap tail same) spot i j d (omega (arith, le)) (omega (arith, low))

got_or : (xs : List Entry) (i : ℕ) (x d : Entry) → slice_get xs i ≡ Some x → get_or xs i d ≡ x
got_or [] i x d e = absurd (None≢Some x e)
got_or (y ∷ xs) zero x d e = same_Some y x e
got_or (y ∷ xs) (suc i) x d e = got_or xs i x d e

-- what a search doesn't find isn't there
pub not_found : (xs : List Entry) (spot : Spot) (i : ℕ) → AreInOrder xs → IsBinarySearchResult (λ (e : Entry). spot_cmp (entry_of e) spot) xs (Err i) →
    (entry : Entry) → Contains xs entry → entry_of entry ≡ spot → ⊥
not_found xs spot i order searched entry among here =
    let parts = searched (order spot) in
    let g = among_got xs entry (among_contained xs entry among) in
    let tie : spot_cmp (entry_of (get_or xs g.at entry)) spot ≡ Equal =
    ap (λ (e : Entry). spot_cmp (entry_of e) spot) (got_or xs g.at entry entry g.is) ∙ ap (λ s. spot_cmp s spot) here ∙ tied_itself spots_total spot in
    elim (cases_lt g.at i) [
      | inl less ↦ (let other = parts.0 g.at entry (omega arith) less in false≢true (sym (ap is_lt (sym other ∙ tie))))
      | inr more ↦ (let other = parts.1 g.at entry more g.low in false≢true (ap is_eq (sym other ∙ tie)))
    ]
