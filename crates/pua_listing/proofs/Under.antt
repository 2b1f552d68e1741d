-- The rows in a directory among rows in order.
use Rattle.pua_listing.proofs.Common.{◌≡◌, ◌≢◌, ℕ, zero, suc, ◌+◌, ◌≤◌, ◌<◌, true, false, cond, ◌&&◌, List, [], ◌∷◌, length, map}
use Rattle.pua_listing.proofs.Common.{refl, sym, ap, ◌∙◌, arith, T, Row, rows_under, spot_cmp, eq-eqb, ne_eqb, Bool}
use Rattle.std.proofs.Common.{get_or, take, drop, leb, ltb}
use Rattle.std.specs.FinMap.{is_sorted}
use Rattle.std.specs.FinMap.Entries.{below_all}
use Rattle.std.specs.Ordering.{is_lt}
use Rattle.std.specs.declared.cmp.Ordering.{Ordering}
use Rattle.std.specs.declared.cmp.Ordering.TheVariants.{Equal, Greater, Less}
use Rattle.std.specs.List.Sorted.{IsPartitionPoint, IsPartitionedBy}
use Rattle.std.proofs.lemmas.Bool.{ltb-true, ltb-false, leb-true, leb-false}
use Rattle.std.proofs.lemmas.List.{get_or-drop, length-drop}
use Rattle.std.proofs.lemmas.List.Sorted.{IsPartitionedBy-ltb, IsPartitionedBy-leb}
use Rattle.pua_tree.specs.LentRows.{lent_entry}
use Rattle.pua_tree.specs.declared.tree.LentRow.{LentRow}
use Rattle.pua_tree.proofs.ForCallers.{not_lower}

parted : (a b : Bool) → T (a && b) → T a × T b
parted true b h = (tt, h)
parted false b h = absurd h

lower : (low : Row) (rows : List LentRow) → T (below_all spot_cmp low.0 (map lent_entry rows)) → (k : ℕ) (d : LentRow) → k < length rows →
    low.0.0 ≤ (get_or rows k d).dir
lower low [] h k d less = absurd (omega arith)
lower low (row ∷ rows) h zero d less =
    by (spot_cmp low.0 (lent_entry row).0) refl h
  where
    by : (o : Ordering) → spot_cmp low.0 (lent_entry row).0 ≡ o → T (is_lt o && below_all spot_cmp low.0 (map lent_entry rows)) → low.0.0 ≤ row.dir
    by Less e b = not_lower low.0 (lent_entry row).0 e
    by Equal e b = absurd b
    by Greater e b = absurd b
lower low (row ∷ rows) h (suc k) d less =
    lower low rows (parted (is_lt (spot_cmp low.0 (lent_entry row).0)) (below_all spot_cmp low.0 (map lent_entry rows)) h).1 k d (omega arith)

-- rows in order are in the order of their directories
dirs_rise : (rows : List LentRow) → T (is_sorted spot_cmp (map lent_entry rows)) → (i j : ℕ) (d : LentRow) → i ≤ j → j < length rows →
    (get_or rows i d).dir ≤ (get_or rows j d).dir
dirs_rise [] h i j d le less = absurd (omega arith)
dirs_rise (row ∷ rows) h zero zero d le less = omega arith
dirs_rise (row ∷ rows) h zero (suc j) d le less =
    lower (lent_entry row) rows (parted (below_all spot_cmp (lent_entry row).0 (map lent_entry rows)) (is_sorted spot_cmp (map lent_entry rows)) h).0 j d
    (omega arith)
dirs_rise (row ∷ rows) h (suc i) zero d le less = absurd (omega arith)
dirs_rise (row ∷ rows) h (suc i) (suc j) d le less =
    dirs_rise rows (parted (below_all spot_cmp (lent_entry row).0 (map lent_entry rows)) (is_sorted spot_cmp (map lent_entry rows)) h).1 i j d
    (omega arith) (omega arith)

other_first : (dir : ℕ) (row : LentRow) (rows : List LentRow) → row.dir ≢ dir → rows_under (map lent_entry (row ∷ rows)) dir ≡ rows_under (map lent_entry rows) dir
other_first dir row rows other =
    ap (λ b. cond b (lent_entry row ∷ rows_under (map lent_entry rows) dir) (rows_under (map lent_entry rows) dir)) (ne_eqb row.dir dir other)

-- those before the first in the directory
skipped : (dir n : ℕ) (rows : List LentRow) → ((k : ℕ) (d : LentRow) → k < n → k < length rows → (get_or rows k d).dir ≢ dir) →
    rows_under (map lent_entry (drop n rows)) dir ≡ rows_under (map lent_entry rows) dir
skipped dir zero rows others = refl
skipped dir (suc n) [] others = refl
skipped dir (suc n) (row ∷ rows) others =
    skipped dir n rows (λ k d less short. others (suc k) d (omega arith) (omega arith)) ∙
    sym (other_first dir row rows (others 0 row (omega arith) (omega arith)))

-- those in the directory, and then others
fronted : (dir n : ℕ) (rows : List LentRow) → ((k : ℕ) (d : LentRow) → k < n → k < length rows → (get_or rows k d).dir ≡ dir) →
    ((k : ℕ) (d : LentRow) → n ≤ k → k < length rows → (get_or rows k d).dir ≢ dir) → map lent_entry (take n rows) ≡ rows_under (map lent_entry rows) dir
fronted dir zero [] own others = refl
fronted dir (suc n) [] own others = refl
fronted dir zero (row ∷ rows) own others =
    fronted dir zero rows (λ k d less short. absurd (omega arith)) (λ k d le less. others (suc k) d (omega arith) (omega arith)) ∙
    sym (other_first dir row rows (others 0 row (omega arith) (omega arith)))
fronted dir (suc n) (row ∷ rows) own others =
    ap (λ more. lent_entry row ∷ more) (fronted dir n rows (λ k d less short. own (suc k) d (omega arith) (omega arith))
    (λ k d le less. others (suc k) d (omega arith) (omega arith)))
    ∙ sym (ap (λ b. cond b (lent_entry row ∷ rows_under (map lent_entry rows) dir) (rows_under (map lent_entry rows) dir))
    (eq-eqb row.dir dir (own 0 row (omega arith) (omega arith))))

-- by two binary searches
pub found_under : (dir start count : ℕ) (rows : List LentRow) → T (is_sorted spot_cmp (map lent_entry rows)) →
    (IsPartitionedBy (λ (y : LentRow). ltb y.dir dir) rows → IsPartitionPoint (λ (y : LentRow). ltb y.dir dir ≡ true) (λ y. ltb y.dir dir ≡ false) rows start) →
    (IsPartitionedBy (λ (y : LentRow). leb y.dir dir) (drop start rows) →
    IsPartitionPoint (λ (y : LentRow). leb y.dir dir ≡ true) (λ y. leb y.dir dir ≡ false) (drop start rows) count) →
    map lent_entry (take count (drop start rows)) ≡ rows_under (map lent_entry rows) dir
found_under dir start count rows sorted first last =
    let rest : List LentRow = drop start rows in
    let size = length-drop start rows in
    let begin = first (IsPartitionedBy-ltb (λ (y : LentRow). y.dir) rows dir (λ i j d le less. dirs_rise rows sorted i j d le less)) in
    let rises : (i j : ℕ) (d : LentRow) → i ≤ j → j < length rest → (get_or rest i d).dir ≤ (get_or rest j d).dir =
    λ i j d le less. (let here = dirs_rise rows sorted (start + i) (start + j) d (omega arith) (omega (arith, size, less)) in
    omega (arith, here, ap (λ (y : LentRow). y.dir) (get_or-drop start rows i d), ap (λ (y : LentRow). y.dir) (get_or-drop start rows j d))) in
    let end = last (IsPartitionedBy-leb (λ (y : LentRow). y.dir) rest dir rises) in
    let low : (k : ℕ) (d : LentRow) → k < length rest → dir ≤ (get_or rest k d).dir = λ k d less.
    (let here = ltb-false (get_or rows (start + k) d).dir dir (begin.1 (start + k) d (omega arith) (omega (arith, size, less))) in
    omega (arith, here, ap (λ (y : LentRow). y.dir) (get_or-drop start rows k d))) in
    fronted dir count rest
    (λ k d less short. (let high = leb-true (get_or rest k d).dir dir (end.0 k d (omega arith) less) in omega (arith, high, low k d short)))
    (λ k d le less e. (let high = leb-false (get_or rest k d).dir dir (end.1 k d le less) in omega (arith, high, e)))
    ∙ skipped dir start rows (λ k d less short e. (let below = ltb-true (get_or rows k d).dir dir (begin.0 k d (omega arith) less) in
    omega (arith, below, e)))
