-- The rows of a map, sorted by their spots, are the rows that are held.
use Rattle.pua_tree.proofs.Common.{◌≡◌, ℕ, ◌+◌, Bool, true, false, cond, ◌&&◌, T, List, [], ◌∷◌, map, length, Some, None, refl, sym, ap}
use Rattle.pua_tree.proofs.Common.{subst, ◌∙◌, arith, true≢false, lookup, keys_of, Ordering, Less, Equal, Greater, nat_cmp, is_eq, is_lt}
use Rattle.pua_tree.proofs.Common.{eq_by_cmp, ordering_then, IsTotalOrder, Equal-is, find, is_sorted, below_all, same_entries, spot_cmp}
use Rattle.pua_tree.proofs.Common.{name_cmp, lent_entry, held_rows, Slots}
use Rattle.std.proofs.Common.{IsPermutation}
use Rattle.std.specs.List.{IsDistinct, AllByRecursion}
use Rattle.std.specs.List.Sorted.{IsSorted, IsStrictlySortedBy}
use Rattle.std.specs.Ordering.{ordering_reverse}
use Rattle.std.specs.Cmp.{eq_by_cmp_equiv}
use Rattle.std.proofs.lemmas.List.Sorted.{Contains-permutation, IsPermutation-map, IsPermutation-sym}
use Rattle.std.proofs.lemmas.Map.Keys.{IsDistinct-IsPermutation, apart_from_distinct, sorted_from_all_adjacent, sorted_head, sorted_tail}
use Rattle.std.proofs.lemmas.Map.Views.{Contains-from_lookup, lookup-from_Contains}
use Rattle.std.proofs.Math.ListN.{get_or-map}
use Rattle.std.proofs.lemmas.List.{length-map}
use lib.ListN.{get_or}
use Rattle.pua_tree.specs.Tree as tree
use Rattle.pua_tree.specs.NamedRows.{key_at, tree_row}
use Rattle.pua_tree.specs.declared.spot.Spot.{Spot}
use Rattle.pua_tree.specs.declared.spot.RowNode.{RowNode}
use Rattle.pua_tree.specs.declared.tree.LentRow.{LentRow}
use Rattle.pua_tree.specs.contracts.spot.SpotPartialEq.TheImpl.{ghosts as spot_ghosts}
use Rattle.pua_tree.specs.contracts.tree.LentRowOrd.TheImpl.{ghosts as lent_ghosts}
use Rattle.pua_tree.proofs.Base.{Some≢None}
use Rattle.pua_tree.proofs.Content.{spots_total, exact_spots}
use Rattle.pua_tree.proofs.SlotsHold.{node_of_row, node_of_one, same_tie, turned_key, rows_found_in, rows_sorted}

module _ {K X : Type 0} (R : K → K → Ordering) (o : IsTotalOrder R) (exact : (x y : K) → R x y ≡ Equal → x ≡ y) where
  find_is : (q : K) (es : List (K × X)) → find R q es ≡ lookup (eq_by_cmp R q) es
  find_is q [] = refl
  find_is q (e ∷ es) = ap (λ v. cond (eq_by_cmp R q e.0) (Some e.1) v) (find_is q es)

  -- what is found does not hang on the order of entries with distinct keys
  found_alike : (es fs : List (K × X)) → IsPermutation es fs → IsDistinct (eq_by_cmp R) (keys_of es) →
      IsDistinct (eq_by_cmp R) (keys_of fs) → (q : K) → lookup (eq_by_cmp R q) es ≡ lookup (eq_by_cmp R q) fs
  found_alike es fs moved d e q =
      elim (lookup (eq_by_cmp R q) es) as (λ v. lookup (eq_by_cmp R q) es ≡ v → v ≡ lookup (eq_by_cmp R q) fs) [
        | Some v ↦ λ is. sym (over es fs moved e v is)
        | None ↦ λ none. elim (lookup (eq_by_cmp R q) fs) as (λ w. lookup (eq_by_cmp R q) fs ≡ w → None ≡ w) [
          | Some w ↦ λ is. absurd (Some≢None w (sym (over fs es (IsPermutation-sym es fs moved) d w is) ∙ none))
          | None ↦ λ _. refl
        ] refl
      ] refl
    where
      over : (us vs : List (K × X)) → IsPermutation us vs → IsDistinct (eq_by_cmp R) (keys_of vs) → (v : X) →
          lookup (eq_by_cmp R q) us ≡ Some v → lookup (eq_by_cmp R q) vs ≡ Some v
      over us vs p h v is =
          lookup-from_Contains (eq_by_cmp_equiv o) q v vs h (Contains-permutation us vs (
            q,
            v,
          ) p (Contains-from_lookup (λ x y t. exact x y ((Equal-is _).0 t)) q v us is))

  below : (k : K) (es : List (K × X)) → AllByRecursion (λ y. R k y ≡ Less) (keys_of es) → T (below_all R k es)
  below k [] h = tt
  below k (e ∷ es) h = subst (λ r. T (is_lt r && below_all R k es)) (sym h.0) (below k es h.1)

  rising : (es : List (K × X)) → IsStrictlySortedBy R (keys_of es) → T (is_sorted R es)
  rising [] h = tt
  rising (e ∷ es) h = both _ _ (below e.0 es (sorted_head R e.0 (keys_of es) h)) (rising es (sorted_tail R e.0 (keys_of es) h))
    where
      both : (a b : Bool) → T a → T b → T (a && b)
      both true b p q = q
      both false b p q = p

abbrev same_spot : tree.Spot → tree.Spot → Bool
same_spot = eq_by_cmp spot_cmp

all_differ : (k : Spot) (es : List (Spot × RowNode)) → AllByRecursion (λ y. spot_ghosts.eq k y ≡ false) (keys_of es) →
    AllByRecursion (λ y. same_spot (k.dir, k.name) y ≡ false) (keys_of (map tree_row es))
all_differ k [] h = tt
all_differ k (e ∷ es) h = (same_tie (k.dir, k.name) (e.0.dir, e.0.name) ∙ h.0, all_differ k es h.1)

-- distinct keys are distinct spots
spots_differ : (es : List (Spot × RowNode)) → IsDistinct spot_ghosts.eq (keys_of es) → IsDistinct same_spot (keys_of (map tree_row es))
unfolding IsDistinct
spots_differ [] d = tt
spots_differ (e ∷ es) d = (all_differ e.0 es d.0, spots_differ es d.1)

looked_up : (q : tree.Spot) (es : List (Spot × RowNode)) →
    lookup (same_spot q) (map tree_row es) ≡ node_of_row (lookup (spot_ghosts.eq (key_at q)) es)
looked_up q [] = refl
looked_up q (e ∷ es) = (λ i. cond (same_tie q (e.0.dir, e.0.name) i) (Some e.1.node) (looked_up q es i))
    ∙ sym (node_of_one (spot_ghosts.eq (key_at q) e.0) (Some e.1) (lookup (spot_ghosts.eq (key_at q)) es))

after : (dirs names nodes : Ordering) → is_lt (ordering_then dirs (ordering_then names nodes)) ≡ false →
    is_eq (ordering_then dirs names) ≡ false → ordering_then dirs names ≡ Greater
after Less names nodes h d = absurd (true≢false h)
after Equal Less nodes h d = absurd (true≢false h)
after Equal Equal nodes h d = absurd (true≢false d)
after Equal Greater nodes h d = refl
after Greater names nodes h d = refl

-- a row that is not before another, at another spot, stands behind it
behind : (r u : LentRow) → is_lt (lent_ghosts.cmp u r) ≡ false → same_spot (lent_entry r).0 (lent_entry u).0 ≡ false →
    spot_cmp (lent_entry r).0 (lent_entry u).0 ≡ Less
behind r u h d =
    spots_total.antisymm (lent_entry r).0 (lent_entry u).0
    ∙ ap ordering_reverse (after (nat_cmp u.dir r.dir) (name_cmp u.name.now r.name.now) (nat_cmp u.node r.node) h
    (turned_key (lent_entry u).0 (lent_entry r).0 ∙ d))

rise : (rows : List LentRow) → IsSorted lent_ghosts.cmp rows → IsDistinct same_spot (keys_of (map lent_entry rows)) →
    T (is_sorted spot_cmp (map lent_entry rows))
rise [] order d = tt
rise (r ∷ rs) order d =
    let keys : List tree.Spot = keys_of (map lent_entry (r ∷ rs)) in
    let first = (lent_entry r).0 in
    let as_many : length keys ≡ length (r ∷ rs) = length-map (map lent_entry (r ∷ rs)) (λ e. e.0) ∙ length-map (r ∷ rs) lent_entry in
    let read : (k : ℕ) → get_or keys k first ≡ (lent_entry (get_or (r ∷ rs) k r)).0 =
    λ k. get_or-map (λ (e : tree.Spot × ℕ). e.0) (map lent_entry (r ∷ rs)) k (lent_entry r) ∙
    ap (λ (e : tree.Spot × ℕ). e.0) (get_or-map lent_entry (r ∷ rs) k r) in
    rising spot_cmp spots_total exact_spots (map lent_entry (r ∷ rs)) (sorted_from_all_adjacent spots_total keys first
    (λ k small. (λ i. spot_cmp (read k i) (read (k + 1) i)) ∙
    behind (get_or (r ∷ rs) k r) (get_or (r ∷ rs) (k + 1) r) (order k r (omega arith) (omega (arith, small, as_many)))
    (sym (λ i. same_spot (read k i) (read (k + 1) i)) ∙ apart_from_distinct same_spot keys k (k + 1) first d (omega arith) small)))

-- the rows that are lent, sorted
pub rows_lent : (s : Slots) (kept rows : List LentRow) → IsDistinct spot_ghosts.eq (keys_of s.rows.entries) →
    map lent_entry kept ≡ map tree_row s.rows.entries → IsPermutation kept rows → IsSorted lent_ghosts.cmp rows
    → map lent_entry rows ≡ held_rows s
rows_lent s kept rows unique collected moved order =
    let moved_rows : IsPermutation (map tree_row s.rows.entries) (map lent_entry rows) =
    rw collected at (IsPermutation-map lent_entry kept rows moved) in
    let differ : IsDistinct same_spot (keys_of (map tree_row s.rows.entries)) = spots_differ s.rows.entries unique in
    let still : IsDistinct same_spot (keys_of (map lent_entry rows)) =
    IsDistinct-IsPermutation same_spot turned_key _ _ (IsPermutation-map (λ (e : tree.Spot × ℕ). e.0) _ _ moved_rows) differ in
    same_entries spot_cmp spots_total exact_spots (map lent_entry rows) (held_rows s) (rise rows order still) (rows_sorted s)
    (λ q. find_is spot_cmp spots_total exact_spots q (map lent_entry rows)
    ∙ sym (found_alike spot_cmp spots_total exact_spots (map tree_row s.rows.entries) (map lent_entry rows) moved_rows differ still q)
    ∙ looked_up q s.rows.entries ∙ sym (rows_found_in s.rows.entries q))
