-- What the entries of a tree list is the tree, renumbered.
use Rattle.pua_listing.proofs.Common.{◌≡◌, ◌≢◌, ℕ, suc, Bool, true, false, not, cond, ◌&&◌, ◌==◌, List, [], ◌∷◌}
use Rattle.pua_listing.proofs.Common.{map, Option, Some, None, option_map, refl, sym, ap, ◌∙◌, arith, inl, inr, list_all}
use Rattle.pua_listing.proofs.Common.{and_parts, false≢true, true≢false, eq-eqb, eqb-true, ne_eqb, not-true}
use Rattle.pua_listing.proofs.Common.{Row, Tree, Spot, spot_cmp, is_living, Sound, spots_total, exact_spots, count}
use Rattle.std.proofs.Common.{is_some, nat_cmp}
use Rattle.std.specs.List.{filter_map, cons_option}
use Rattle.std.specs.FinMap.{find as find_key}
use Rattle.std.specs.FinMap.Entries.{find-put}
use Rattle.std.specs.Ordering.{is_eq, eq_by_cmp}
use Rattle.pua_tree.specs.Tree.{Node, node_at, is_dir_kind, target_fits, mark_fits}
use Rattle.pua_tree.specs.Listing.{Entry, tree_of, rows_of_entries, made_entry, root_node}
use Rattle.pua_tree.specs.declared.form.Form.{Form}
use Rattle.pua_tree.specs.declared.node.Kind.{Kind}
use Rattle.pua_tree.specs.declared.node.Kind.TheVariants.{Dir, File, Known, Link, Prog}
use Rattle.pua_tree.proofs.ForCallers.{row_says, same_or_other, same_Some, None≢Some, nat_tie, all_found}
use Rattle.pua_listing.specs.Entries.{first_line, number_of, made_under, entries_from}
use Rattle.pua_listing.specs.Same.{IsRenumbered}
use Rattle.pua_listing.proofs.Counting.{all_counted, counted_all}
use Rattle.pua_listing.proofs.FirstLines.{not_before}
use Rattle.pua_listing.proofs.RowForEachNode.{number_is, number_root, placed, same_number, order_has}
use Rattle.pua_listing.proofs.Walking.{has, found_has}

-- the row of an entry
abbrev entry_row : Entry → Spot × ℕ
entry_row e = ((e.parent, e.name), e.node)

rows_found : (es : List Entry) (s : Spot) → find_key spot_cmp s (rows_of_entries es) ≡ find_key spot_cmp s (map entry_row es)
rows_found [] s = refl
rows_found (e ∷ es) s = find-put spot_cmp spots_total s (e.parent, e.name) e.node (rows_of_entries es) ∙
    ap (cond (eq_by_cmp spot_cmp s (e.parent, e.name)) (Some e.node)) (rows_found es s)

living_node : (o : Option Node) → is_some o ≡ true → (n : Node) × (o ≡ Some n)
living_node None e = absurd (false≢true e)
living_node (Some n) e = (n, refl)

dir_lives : (o : Option Node) → is_dir_kind (option_map (λ n. n.kind) o) ≡ true → is_some o ≡ true
dir_lives None h = h
dir_lives (Some n) h = refl

bare_dir : (kind : Kind) (target : Option (List ℕ)) → is_dir_kind (Some kind) ≡ true → target_fits kind target ≡ true →
    record { kind = kind; target = target; mount = false } ≡ root_node
bare_dir Dir None h g = refl
bare_dir Dir (Some target) h g = absurd (false≢true g)
bare_dir File target h g = absurd (false≢true h)
bare_dir Prog target h g = absurd (false≢true h)
bare_dir Link target h g = absurd (false≢true h)
bare_dir (Known type) target h g = absurd (false≢true h)

-- no other file system is mounted at the root
bare_root : (n : Node) → mark_fits (0, n) ≡ true → n.mount ≡ false
bare_root n fits = by n.mount fits
  where
    by : (b : Bool) → cond b (is_dir_kind (Some n.kind) && false) true ≡ true → b ≡ false
    by false h = refl
    by true h = absurd (false≢true (and_parts (is_dir_kind (Some n.kind)) false h).1)

root_from : (o : Option Node) → is_dir_kind (option_map (λ n. n.kind) o) ≡ true → ((n : Node) → o ≡ Some n → target_fits n.kind n.target ≡ true) →
    ((n : Node) → o ≡ Some n → mark_fits (0, n) ≡ true) → o ≡ Some root_node
root_from None h g m = absurd (false≢true h)
root_from (Some n) h g m =
    ap (λ mount. Some (record { kind = n.kind; target = n.target; mount = mount })) (bare_root n (m n refl)) ∙
    ap Some (bare_dir n.kind n.target h (g n refl))

-- an entry under another number is passed over
skip : (n j : ℕ) (made : Option Node) (es : List (ℕ × Node)) → n ≢ j →
    find_key nat_cmp j (cons_option (option_map (λ m. (n, m)) made) es) ≡ find_key nat_cmp j es
skip n j None es other = refl
skip n j (Some m) es other = ap (λ b. cond b (Some m) (find_key nat_cmp j es)) (nat_tie j n ∙ ne_eqb n j other)

hit : (n j : ℕ) (made : Option Node) (m : Node) (es : List (ℕ × Node)) → n ≡ j → made ≡ Some m →
    find_key nat_cmp j (cons_option (option_map (λ m. (n, m)) made) es) ≡ Some m
hit n j made m es own is =
    ap (λ o. find_key nat_cmp j (cons_option (option_map (λ m. (n, m)) o) es)) is
    ∙ ap (λ b. cond b (Some m) (find_key nat_cmp j es)) (nat_tie j n ∙ eq-eqb n j own)

module _ (t : Tree) (f : ℕ → ℕ) where
  -- the node under the number of its first line is what it was
  node_found : (n : ℕ) (rows : List Row) (x j : ℕ) → first_line n rows x ≡ Some j → f x ≡ j → (node : Node) → node_at t x ≡ Some node →
      find_key nat_cmp j (filter_map made_entry (entries_from t f n rows)) ≡ Some node
  node_found n [] x j e is node here = absurd (None≢Some j e)
  node_found n (row ∷ rows) x j e is node here =
      let es : List (ℕ × Node) = filter_map made_entry (entries_from t f (suc n) rows) in
      elim (row.1 == x) as (λ b. (row.1 == x) ≡ b → cond b (Some n) (first_line (suc n) rows x) ≡ Some j →
      find_key nat_cmp j (cons_option (option_map (λ m. (n, m)) (made_under t f n row.1)) es) ≡ Some node) [
        | true ↦ λ same now. (let own = eqb-true row.1 x same in
            let line = same_Some n j now in
            hit n j (made_under t f n row.1) node es line
            (ap (made_under t f n) own ∙ ap (λ b. cond b (node_at t x) None) (eq-eqb (f x) n (is ∙ sym line)) ∙ here))
        | false ↦ λ _ later. skip n j (made_under t f n row.1) es (λ q. omega (arith, q, not_before (suc n) rows x j later)) ∙
            node_found (suc n) rows x j later is node here
      ] refl e

  -- each number is that of a node
  number_found : (n : ℕ) (rows : List Row) (y : ℕ) → is_some (find_key nat_cmp y (filter_map made_entry (entries_from t f n rows))) ≡ true →
      (x : ℕ) × (is_living t x ≡ true) × (f x ≡ y)
  number_found n [] y h = absurd (false≢true h)
  number_found n (row ∷ rows) y h =
      by (f row.1 == n) refl (node_at t row.1) refl (filter_map made_entry (entries_from t f (suc n) rows)) h (number_found (suc n) rows y)
    where
      by : (b : Bool) → (f row.1 == n) ≡ b → (made : Option Node) → node_at t row.1 ≡ made → (es : List (ℕ × Node)) →
          is_some (find_key nat_cmp y (cons_option (option_map (λ m. (n, m)) (cond b made None)) es)) ≡ true →
          (is_some (find_key nat_cmp y es) ≡ true → (x : ℕ) × (is_living t x ≡ true) × (f x ≡ y)) →
          (x : ℕ) × (is_living t x ≡ true) × (f x ≡ y)
      by false q made here es h rest = rest h
      by true q None here es h rest = rest h
      by true q (Some node) here es h rest =
          elim (eq_by_cmp nat_cmp y n) as (λ c. eq_by_cmp nat_cmp y n ≡ c → is_some (cond c (Some node) (find_key nat_cmp y es)) ≡ true →
          (x : ℕ) × (is_living t x ≡ true) × (f x ≡ y)) [
            | true ↦ λ c _. (row.1, ap is_some here, eqb-true (f row.1) n q ∙ eqb-true n y (sym (nat_tie y n) ∙ c))
            | false ↦ λ _ more. rest more
          ] refl h

tied : (a b : Spot) → a ≡ b → is_eq (spot_cmp a b) ≡ true
tied a b e = elim (same_or_other spot_cmp spots_total exact_spots a b) [ inl same ↦ same.1 | inr other ↦ absurd (other.0 e) ]

apart : (a b : Spot) → a ≢ b → is_eq (spot_cmp a b) ≡ false
apart a b n = elim (same_or_other spot_cmp spots_total exact_spots a b) [ inl same ↦ absurd (n same.0) | inr other ↦ other.1 ]

-- where nothing is found no row has the spot
none_there : (s : Spot) (rows : List Row) → find_key spot_cmp s rows ≡ None → list_all (λ (r : Row). not (is_eq (spot_cmp s r.0))) rows ≡ true
none_there s [] e = refl
none_there s (r ∷ rows) e =
    elim (is_eq (spot_cmp s r.0)) as (λ b. cond b (Some r.1) (find_key spot_cmp s rows) ≡ None →
    (not b && list_all (λ (r : Row). not (is_eq (spot_cmp s r.0))) rows) ≡ true) [
      | true ↦ λ found. absurd (None≢Some r.1 (sym found))
      | false ↦ λ later. none_there s rows later
    ] e

module _ (t : Tree) (sound : Sound t) (order : List Row) (counts : (p : Row → Bool) → count p order ≡ count p t.rows) where
  -- a spot is told from others by its new number
  same_test : (s r : Spot) → is_living t s.0 ≡ true → is_living t r.0 ≡ true →
      eq_by_cmp spot_cmp (number_of order s.0, s.1) (number_of order r.0, r.1) ≡ eq_by_cmp spot_cmp s r
  same_test s r ls lr =
      elim (same_or_other spot_cmp spots_total exact_spots s r) [
        | inl same ↦ tied (number_of order s.0, s.1) (number_of order r.0, r.1) (λ i. (number_of order (same.0 i).0, (same.0 i).1)) ∙ sym same.1
        | inr other ↦ apart (number_of order s.0, s.1) (number_of order r.0, r.1) (λ e. other.0
            (let dirs = same_number t sound order counts s.0 r.0 ls lr (ap (λ (z : Spot). z.0) e) in λ i. (dirs i, (e i).1))) ∙ sym other.1
      ]

  row_found : (n : ℕ) (rows : List Row) (s : Spot) → is_living t s.0 ≡ true → list_all (has t.rows) rows ≡ true →
      find_key spot_cmp (number_of order s.0, s.1) (map entry_row (entries_from t (number_of order) n rows))
      ≡ option_map (number_of order) (find_key spot_cmp s rows)
  row_found n [] s living all = refl
  row_found n (r ∷ rows) s living all =
      let there = and_parts (has t.rows r) (list_all (has t.rows) rows) all in
      let says = row_says t sound r.0 r.1 (found_has t.rows r there.0) in
      let rest = row_found (suc n) rows s living there.1 in
      (λ i. cond (same_test s r.0 living (dir_lives (node_at t r.0.0) says.0) i) (Some (number_of order r.1)) (rest i))
      ∙ elim (eq_by_cmp spot_cmp s r.0) as (λ b. cond b (Some (number_of order r.1)) (option_map (number_of order) (find_key spot_cmp s rows))
      ≡ option_map (number_of order) (cond b (Some r.1) (find_key spot_cmp s rows))) [ true ↦ refl | false ↦ refl ]

  order_found : (s : Spot) → find_key spot_cmp s order ≡ find_key spot_cmp s t.rows
  order_found s = by (find_key spot_cmp s order) refl (find_key spot_cmp s t.rows) refl
    where
      by : (a : Option ℕ) → find_key spot_cmp s order ≡ a → (b : Option ℕ) → find_key spot_cmp s t.rows ≡ b → a ≡ b
      by (Some x) here b there = sym (found_has t.rows (s, x) (all_found spot_cmp spots_total exact_spots (has t.rows) order
          (order_has t sound order counts) s x here)) ∙ there
      by None here None there = refl
      by None here (Some x) there =
          let q : Row → Bool = λ r. not (is_eq (spot_cmp s r.0)) in
          let none = all_counted q t.rows (sym (counts (λ r. not (q r))) ∙ counted_all q order (none_there s order here)) in
          let not_own : not (is_eq (spot_cmp s s)) ≡ true = all_found spot_cmp spots_total exact_spots q t.rows none s x there in
          absurd (true≢false (sym (tied s s refl) ∙ not-true _ not_own))

  pub is_renumbered : (form : Form) → IsRenumbered (number_of order) t (tree_of form (entries_from t (number_of order) 1 order))
  is_renumbered form = let es : List (ℕ × Node) = filter_map made_entry (entries_from t (number_of order) 1 order) in record {
    root = number_root t sound order counts;
    apart = same_number t sound order counts;
    no_other = λ y h. elim (eq_by_cmp nat_cmp y 0) as (λ c. eq_by_cmp nat_cmp y 0 ≡ c → is_some (cond c (Some root_node) (find_key nat_cmp y es)) ≡
        true → (x : ℕ) × (is_living t x ≡ true) × (number_of order x ≡ y)) [
          | true ↦ λ c _. (0, dir_lives (node_at t 0) sound.root, number_root t sound order counts ∙ eqb-true 0 y (sym (nat_tie y 0) ∙ c))
          | false ↦ λ _ more. number_found t (number_of order) 1 order y more
        ] refl h;
    nodes = λ x living. elim (placed t sound order counts x living) [
      | inl root ↦ ap (λ n. cond (eq_by_cmp nat_cmp n 0) (Some root_node) (find_key nat_cmp n es)) root.1 ∙
          sym (ap (node_at t) root.0 ∙ root_from (node_at t 0) sound.root (λ n e. (sound.node 0 n e).1) (λ n e. sound.marks 0 n e))
      | inr line ↦ (let number = number_is order x line.0 line.1 in
          let node = living_node (node_at t x) living in
          ap (λ n. cond (eq_by_cmp nat_cmp n 0) (Some root_node) (find_key nat_cmp n es)) number
          ∙ ap (λ b. cond b (Some root_node) (find_key nat_cmp line.0 es)) (nat_tie line.0 0 ∙
          ne_eqb 0 line.0 (λ z. omega (arith, z, not_before 1 order x line.0 line.1)))
          ∙ node_found t (number_of order) 1 order x line.0 line.1 number node.0 node.1
          ∙ sym node.1)
    ];
    rows = λ dir name is. rows_found (entries_from t (number_of order) 1 order) (number_of order dir, name)
        ∙ row_found 1 order (dir, name) (dir_lives (node_at t dir) is) (order_has t sound order counts)
        ∙ ap (option_map (number_of order)) (order_found (dir, name));
  }
