-- A row for each living node but the root: what the order of lines says of a tree.
use Rattle.pua_listing.proofs.Common.{◌≡◌, ℕ, ◌+◌, ◌≤◌, Bool, true, false, not, ◌&&◌, ◌==◌, ◌⊎◌, List, [], ◌∷◌}
use Rattle.pua_listing.proofs.Common.{length, Some, refl, sym, ap, ◌∙◌, arith, inl, inr, list_all, T}
use Rattle.pua_listing.proofs.Common.{eqb-true, eqb-false, Row, Tree, Spot, spot_cmp}
use Rattle.pua_listing.proofs.Common.{is_living, Sound, spots_total, exact_spots, one, count}
use Rattle.std.proofs.Common.{unwrap_or}
use Rattle.std.specs.Cmp.{IsTotalOrder}
use Rattle.std.specs.FinMap.{is_sorted}
use Rattle.std.specs.FinMap.Entries.{below_all}
use Rattle.std.specs.Ordering.{is_eq, is_lt}
use Rattle.std.specs.declared.cmp.Ordering.{Ordering}
use Rattle.std.specs.declared.cmp.Ordering.TheVariants.{Equal, Greater, Less}
use Rattle.pua_tree.proofs.ForCallers.{tally_counts, same_or_other}
use Rattle.pua_listing.specs.Entries.{first_line, number_of}
use Rattle.pua_listing.proofs.Counting.{count_is, count-all, counted_any, all_counted, counted_all, none_counted}
use Rattle.pua_listing.proofs.FirstLines.{has_node, not_before, same_node, lined, not_lined}
use Rattle.pua_listing.proofs.Walking.{has, has_all}

parted : (a b : Bool) → T (a && b) → T a × T b
parted true b h = (tt, h)
parted false b h = absurd h

module _ {K X : Type 0} (R : K → K → Ordering) (o : IsTotalOrder R) (exact : (x y : K) → R x y ≡ Equal → x ≡ y) where
  none_below : (k : K) (es : List (K × X)) → T (below_all R k es) → count (λ e. is_eq (R k e.0)) es ≡ 0
  none_below k [] h = refl
  none_below k (e ∷ es) h =
      elim (R k e.0) as (λ r. T (is_lt r && below_all R k es) → one (is_eq r) + count (λ e. is_eq (R k e.0)) es ≡ 0) [
        | Less ↦ λ b. omega (arith, none_below k es b)
        | Equal ↦ λ b. absurd b
        | Greater ↦ λ b. absurd b
      ] h

  -- a key stands once among those in order
  pub key_once : (k : K) (es : List (K × X)) → T (is_sorted R es) → count (λ e. is_eq (R k e.0)) es ≤ 1
  key_once k [] h = omega arith
  key_once k (e ∷ es) h =
      let below = parted (below_all R e.0 es) (is_sorted R es) h in
      let rest = key_once k es below.1 in
      elim (same_or_other R o exact k e.0) [
        | inl same ↦ (let none : count (λ (d : K × X). is_eq (R k d.0)) es ≡ 0 = ap (λ key. count (λ (d : K × X). is_eq (R key d.0)) es) same.0 ∙
            none_below e.0 es below.0 in
            let here : one (is_eq (R k e.0)) ≡ 1 = ap one same.1 in omega arith)
        | inr other ↦ (let here : one (is_eq (R k e.0)) ≡ 0 = ap one other.1 in omega arith)
      ]

-- the number of a node is that of its first line
pub number_is : (rows : List Row) (x j : ℕ) → first_line 1 rows x ≡ Some j → number_of rows x ≡ j
number_is rows x j e = ap (λ o. unwrap_or o 0) e

-- the root has the number 0, and another node that of its first line
abbrev pub IsPlaced : List Row → ℕ → Type 0
IsPlaced rows x = ((x ≡ 0) × (number_of rows x ≡ 0)) ⊎ ((j : ℕ) × (first_line 1 rows x ≡ Some j))

pub one_number : (rows : List Row) (x y : ℕ) → IsPlaced rows x → IsPlaced rows y → number_of rows x ≡ number_of rows y → x ≡ y
one_number rows x y (inl a) (inl b) e = a.0 ∙ sym b.0
one_number rows x y (inl a) (inr b) e = absurd (omega (arith, a.1, e, number_is rows y b.0 b.1, not_before 1 rows y b.0 b.1))
one_number rows x y (inr a) (inl b) e = absurd (omega (arith, b.1, e, number_is rows x a.0 a.1, not_before 1 rows x a.0 a.1))
one_number rows x y (inr a) (inr b) e =
    let same : a.0 ≡ b.0 = sym (number_is rows x a.0 a.1) ∙ e ∙ number_is rows y b.0 b.1 in
    same_node 1 rows x y b.0 (a.1 ∙ ap Some same) b.1

module _ (t : Tree) (sound : Sound t) (order : List Row) (counts : (p : Row → Bool) → count p order ≡ count p t.rows) where
  pub order_all : (q : Row → Bool) → list_all q t.rows ≡ true → list_all q order ≡ true
  order_all q h = all_counted q order (counts (λ r. not (q r)) ∙ counted_all q t.rows h)

  pub order_has : list_all (has t.rows) order ≡ true
  order_has = order_all (has t.rows) (has_all t sound)

  pub order_length : length order ≡ length t.rows
  order_length = sym (count-all order) ∙ counts (λ _. true) ∙ count-all t.rows

  rows_counted : (x : ℕ) → count (λ (r : Row). r.1 == x) order ≡ count (λ (r : Row). r.1 == x) t.rows
  rows_counted x = counts (λ r. r.1 == x)

  no_root : has_node 0 order ≡ false
  no_root = none_counted (λ (r : Row). r.1 == 0) order (counts (λ r. r.1 == 0) ∙ count_is (λ (r : Row). r.1 == 0) t.rows ∙
      sym (tally_counts (λ y. y == 0) t.rows) ∙ sound.unnamed_root)

  pub number_root : number_of order 0 ≡ 0
  number_root = ap (λ o. unwrap_or o 0) (not_lined 1 order 0 no_root)

  pub placed : (x : ℕ) → is_living t x ≡ true → IsPlaced order x
  placed x living = elim (x == 0) as (λ b. (x == 0) ≡ b → IsPlaced order x) [
    | true ↦ λ e. (let root = eqb-true x 0 e in inl (root, ap (number_of order) root ∙ number_root))
    | false ↦ λ e. (let named = sound.named x living (eqb-false x 0 e) in
        let in_order = counts (λ (r : Row). r.1 == x) ∙ count_is (λ (r : Row). r.1 == x) t.rows ∙ sym (tally_counts (λ y. y == x) t.rows) in
        inr (lined 1 order x (counted_any (λ (r : Row). r.1 == x) order (omega (arith, named, in_order)))))
  ] refl

  pub same_number : (x y : ℕ) → is_living t x ≡ true → is_living t y ≡ true → number_of order x ≡ number_of order y → x ≡ y
  same_number x y lx ly e = one_number order x y (placed x lx) (placed y ly) e

  -- no other row has the spot
  pub spot_once : (s : Spot) → count (λ (r : Row). is_eq (spot_cmp s r.0)) order ≤ 1
  spot_once s = let once = key_once spot_cmp spots_total exact_spots s t.rows sound.rows_sorted in
      omega (arith, once, counts (λ r. is_eq (spot_cmp s r.0)))
