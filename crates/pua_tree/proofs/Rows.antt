-- What rows in order say of a directory and of a node.
use Rattle.pua_tree.proofs.Common.{◌≡◌, ◌<◌, ◌≤◌, ℕ, zero, suc, List, [], ◌∷◌, ◌++◌, length, get_or, map, Option, Some, None, Result, Ok}
use Rattle.pua_tree.proofs.Common.{Err, true, false, cond, ◌||◌, ◌==◌, ◌≢◌, option_map, refl, sym, ap, ◌∙◌}
use Rattle.pua_tree.proofs.Common.{inl, inr, arith, reverse, list_any, Less, Equal, Greater, nat_cmp, ordering_then, is_sorted}
use Rattle.pua_tree.proofs.Common.{nat_cmp-IsAntisymmetric, map-append, reverse-append, by_order, Spot, Tree, distinct_names, spot_cmp}
use Rattle.pua_tree.proofs.Common.{name_cmp, row_entry, lent_entry, ListRow, passes}
use Rattle.std.proofs.Common.{IsTrue, find}
use Rattle.std.proofs.Common.{is_ok, Bor}
use Rattle.std.specs.List.Sorted.{IsNonDecreasingBy, IsBinarySearchResult, IsSearchInRange}
use Rattle.std.specs.Ordering.{ordering_index}
use Rattle.std.proofs.lemmas.Bool.{cases_lt}
use Rattle.std.specs.BTreeSet.{insert_key}
use Rattle.std.specs.Ordering.{match_ordering}
use Rattle.std.proofs.lemmas.Bool.Decides.{nat_tests}
use Rattle.pua_tree.specs.Tree.{with_name, spot_of}
use Rattle.pua_tree.specs.declared.tree.LentRow.{LentRow}
use Rattle.pua_tree.proofs.Base.{find-map}
use Rattle.pua_tree.proofs.Content.{spots_total}
use Rattle.pua_tree.proofs.Places.{rises}

-- of two spots in order the later is of no lower directory
pub not_lower : (a b : Spot) → spot_cmp a b ≡ Less → a.0 ≤ b.0
not_lower a b e =
    elim (cases_lt b.0 a.0) [
      | inl less ↦ let more : nat_cmp a.0 b.0 ≡ Greater = grind (arith, nat_tests) in
          let other : spot_cmp a b ≡ Greater = ap (λ o. ordering_then o (name_cmp a.1 b.1)) more in cc
      | inr le ↦ le
    ]

index_rises : (a b d : ℕ) → a ≤ b → ordering_index (nat_cmp a d) ≤ ordering_index (nat_cmp b d)
index_rises a b d le = grind (arith, nat_tests)

dirs_searchable : (rows : List ListRow) (d : ℕ) → IsTrue (is_sorted spot_cmp (map row_entry rows)) →
    IsNonDecreasingBy (λ row. ordering_index (nat_cmp row.dir d)) rows
dirs_searchable rows d h i j row le lt =
    elim (cases_lt i j) [
      | inl less ↦ index_rises _ _ d (not_lower (row_entry (get_or rows i row)).0 (row_entry (get_or rows j row)).0
          (rises spots_total row_entry rows i j row (passes _ h) less lt))
      | inr more ↦ let same : j ≡ i = omega arith in rw same (omega arith)
    ]

differs : (a b : ℕ) → a ≢ b → (a == b) ≡ false
differs a b ne = grind (arith, nat_tests)

any_at : (rows : List ListRow) (d i : ℕ) (row : ListRow) → i < length rows → nat_cmp (get_or rows i row).dir d ≡ Equal →
    list_any (λ r. r.0.0 == d) (map row_entry rows) ≡ true
any_at [] d i row lt e = absurd (omega arith)
any_at (x ∷ xs) d zero row lt e =
    let same : x.dir ≡ d = nat_cmp-IsAntisymmetric _ _ e in
    let here : (x.dir == d) ≡ true = grind (arith, nat_tests) in
    rw here refl
any_at (x ∷ xs) d (suc i) row lt e =
    rw (any_at xs d i row (omega arith) e) (elim (x.dir == d) as (λ b. (b || true) ≡ true) [ true ↦ refl | false ↦ refl ])

none_at : (rows : List ListRow) (d : ℕ) → ((i : ℕ) (row : ListRow) → i < length rows → (get_or rows i row).dir ≢ d) →
    list_any (λ r. r.0.0 == d) (map row_entry rows) ≡ false
none_at [] d h = refl
none_at (x ∷ xs) d h =
    let here : (x.dir == d) ≡ false = differs x.dir d (h 0 x (omega arith)) in
    rw here (none_at xs d (λ i row lt. h (suc i) row (omega arith)))

-- a search by directory finds whether one of them is this
pub any_row : (rows : List ListRow) (d : ℕ) (r : Result ℕ ℕ) → IsTrue (is_sorted spot_cmp (map row_entry rows)) →
    IsSearchInRange r (length rows) → IsBinarySearchResult (λ row. nat_cmp row.dir d) rows r
    → is_ok r ≡ list_any (λ row. row.0.0 == d) (map row_entry rows)
any_row [] d (Ok i) h bound p = absurd (omega (arith, bound))
any_row (x ∷ xs) d (Ok i) h bound p = sym (any_at (x ∷ xs) d i x bound (p x))
any_row rows d (Err i) h bound p =
    let parts = p (dirs_searchable rows d h) in
    sym (none_at rows d (λ k row lt e. elim (cases_lt k i) [
      | inl less ↦ let other : nat_cmp (get_or rows k row).dir d ≡ Less = parts.0 k row (omega arith) less in grind (arith, nat_tests)
      | inr more ↦ let other : nat_cmp (get_or rows k row).dir d ≡ Greater = parts.1 k row more lt in grind (arith, nat_tests)
    ]))

-- the spot of the first row of a number
pub row_spot : (rows : List ListRow) (x : ℕ) → option_map (λ row. (row_entry row).0) (find (λ row. row.node == x) rows)
    ≡ option_map (λ row. row.0) (find (λ row. row.1 == x) (map row_entry rows))
row_spot [] x = refl
row_spot (r ∷ rows) x =
    elim (r.node == x) as
    (λ b. option_map (λ row. (row_entry row).0) (cond b (Some r) (find (λ row. row.node == x) rows))
    ≡ option_map (λ row. row.0) (cond b (Some (row_entry r)) (find (λ row. row.1 == x) (map row_entry rows)))) [
      | true ↦ refl
      | false ↦ row_spot rows x
    ]

pub with_name_is : (n : List ℕ) (ns : List (List ℕ)) → insert_key name_cmp ns n ≡ with_name n ns
with_name_is n [] = refl
with_name_is n (m ∷ ms) =
    elim (name_cmp n m) as (λ o. match_ordering o (n ∷ m ∷ ms) (m ∷ ms) (m ∷ insert_key name_cmp ms n) ≡ by_order o (n ∷ m ∷ ms) (m ∷ ms)
    (m ∷ with_name n ms)) [
      | Less ↦ refl
      | Equal ↦ refl
      | Greater ↦ ap (λ names. m ∷ names) (with_name_is n ms)
    ]

-- the names of rows from the last one on, with the name of one row more
pub one_name_more : (rows : List (Bor ListRow)) (row : Bor ListRow) (names more : List (List ℕ)) →
    names ≡ distinct_names (map (λ r. r.name) (reverse (map (λ r. r.now) rows))) → more ≡ insert_key name_cmp names row.now.name
    → more ≡ distinct_names (map (λ r. r.name) (reverse (map (λ r. r.now) (rows ++ row ∷ []))))
one_name_more rows row names more so_far new =
    new ∙ with_name_is row.now.name names ∙ ap (with_name row.now.name) so_far
    ∙ sym (ap (λ (rs : List ListRow). distinct_names (map (λ r. r.name) (reverse rs))) (map-append (λ r. r.now) rows (row ∷ [])) ∙
    ap (λ (rs : List ListRow). distinct_names (map (λ r. r.name) rs)) (reverse-append (map (λ r. r.now) rows) (row.now ∷ [])))

-- the names of rows by their entries
pub entry_names : (rows : List ListRow) → map (λ entry. entry.0.1) (map row_entry rows) ≡ map (λ row. row.name) rows
entry_names [] = refl
entry_names (r ∷ rows) = ap (λ names. r.name ∷ names) (entry_names rows)

-- the row that is found among those that are lent is the tree's
pub found_spot : (rows : List LentRow) (t : Tree) (dir : ℕ) (o : Option (Bor LentRow)) → map lent_entry rows ≡ t.rows →
    option_map (λ row. row.now) o ≡ find (λ row. row.node == dir) rows
    → option_map (λ row. (lent_entry row.now).0) o ≡ spot_of t dir
found_spot rows t dir o all found =
    twice o
    ∙ ap (λ row. option_map (λ entry. entry.0) (option_map lent_entry row)) found
    ∙ ap (option_map (λ entry. entry.0)) (sym (find-map lent_entry (λ entry. entry.1 == dir) rows))
    ∙ ap (λ es. option_map (λ entry. entry.0) (find (λ entry. entry.1 == dir) es)) all
  where
    twice : (o : Option (Bor LentRow)) →
        option_map (λ row. (lent_entry row.now).0) o ≡ option_map (λ entry. entry.0) (option_map lent_entry (option_map (λ row. row.now) o))
    twice None = refl
    twice (Some row) = refl
