-- The entries of a tree fit each other.
use Rattle.pua_listing.proofs.Common.{◌≡◌, ◌≢◌, ℕ, suc, ◌+◌, ◌≤◌, ◌<◌, Bool, true, false, not, cond, ◌||◌, ◌&&◌, ◌==◌, List, [], ◌∷◌}
use Rattle.pua_listing.proofs.Common.{◌++◌, length, Option, Some, None, option_map, refl, sym, ap, subst, ◌∙◌, arith, inl, inr, list_all, list_any}
use Rattle.pua_listing.proofs.Common.{append_assoc, and_parts, and_from, or_cases, false≢true, eq-eqb, eqb-true}
use Rattle.pua_listing.proofs.Common.{ne_eqb, Row, Tree, Spot, spot_cmp, is_dir, is_living, Sound, spots_total, exact_spots, one, count}
use Rattle.std.proofs.Common.{is_some, lt-ltb, le-leb}
use Rattle.std.specs.FinMap.{find as find_key}
use Rattle.std.specs.Ordering.{is_eq}
use Rattle.std.proofs.lemmas.Bool.{or_left, or_right, or_parts}
use Rattle.std.proofs.lemmas.List.{length-append}
use Rattle.std.proofs.lemmas.List.Folds.{list_all-append}
use Rattle.pua_tree.specs.Names.{same_bytes, is_name}
use Rattle.pua_tree.specs.Tree.{Node, node_at, is_dir_kind, target_fits, mark_fits}
use Rattle.pua_tree.specs.Listing.{Entry, last_number, is_taken, is_earlier_dir, is_earlier_other, makes_dir, makes_other, knows_hard}
use Rattle.pua_tree.specs.Listing.{most_listed_of, knows_types}
use Rattle.pua_tree.specs.Grammar.{entry_fits, entries_fit, kind_known, made_fits, mount_known, target_stands}
use Rattle.pua_tree.specs.declared.form.Form.{Form}
use Rattle.pua_tree.specs.declared.node.Kind.{Kind}
use Rattle.pua_tree.specs.declared.node.Kind.TheVariants.{Dir, File, Known, Link, Prog}
use Rattle.pua_tree.proofs.ForCallers.{row_says, same_or_other, same_word, same_Some, None≢Some}
use Rattle.pua_listing.specs.Entries.{first_line, number_of, made_under, entry_for, entries_from, has_second_lines, is_target_of_bytes, leads_to_bytes}
use Rattle.pua_listing.specs.Listed.{has_types, is_known, is_typed}
use Rattle.pua_listing.proofs.Counting.{count-append, any_counted, counted_any, none_counted}
use Rattle.pua_listing.proofs.FirstLines.{has_node, not_behind, lined, not_lined, early, late, here}
use Rattle.pua_listing.proofs.RowForEachNode.{number_is, order_has, order_length, number_root, same_number, spot_once}
use Rattle.pua_listing.proofs.Walking.{is_entered, all_enter, has, found_has, once}

living_node : (o : Option Node) → is_some o ≡ true → (n : Node) × (o ≡ Some n)
living_node None e = absurd (false≢true e)
living_node (Some n) e = (n, refl)

dir_lives : (o : Option Node) → is_dir_kind (option_map (λ n. n.kind) o) ≡ true → is_some o ≡ true
dir_lives None h = h
dir_lives (Some n) h = refl

tied : (a b : Spot) → a ≡ b → is_eq (spot_cmp a b) ≡ true
tied a b e = elim (same_or_other spot_cmp spots_total exact_spots a b) [ inl same ↦ same.1 | inr other ↦ absurd (other.0 e) ]

dir_made : (o : Option Node) → is_dir_kind (option_map (λ n. n.kind) o) ≡ true → makes_dir o ≡ true
dir_made None h = absurd (false≢true h)
dir_made (Some n) h = h

other_made : (o : Option Node) → is_some o ≡ true → is_dir_kind (option_map (λ n. n.kind) o) ≡ false → makes_other o ≡ true
other_made None h g = absurd (false≢true h)
other_made (Some n) h g = ap not g

target_from : (kind : Kind) (target : Option (List ℕ)) → target_fits kind target ≡ true → is_target_of_bytes target ≡ true →
    target_stands kind target ≡ true
target_from Link (Some target) h g = and_from _ _ h g
target_from Link None h g = absurd (false≢true h)
target_from Dir None h g = refl
target_from File None h g = refl
target_from Prog None h g = refl
target_from (Known type) None h g = refl
target_from Dir (Some target) h g = absurd (false≢true h)
target_from File (Some target) h g = absurd (false≢true h)
target_from Prog (Some target) h g = absurd (false≢true h)
target_from (Known type) (Some target) h g = absurd (false≢true h)

-- a form that knows the type of a typed kind knows the kind
known_from : (form : Form) (kind : Kind) → (is_known kind ≡ true → knows_types form ≡ true) → kind_known form kind ≡ true
known_from form Dir h = refl
known_from form File h = refl
known_from form Prog h = refl
known_from form Link h = refl
known_from form (Known type) h = h refl

-- and where it knows mounts, that one is there
mount_from : (form : Form) (x : ℕ) (n : Node) → mark_fits (x, n) ≡ true → (n.mount ≡ true → knows_types form ≡ true) → mount_known form n ≡ true
mount_from form x n fits known = by n.mount fits known
  where
    by : (b : Bool) → cond b (is_dir_kind (Some n.kind) && not (x == 0)) true ≡ true → (b ≡ true → knows_types form ≡ true) →
        cond b (knows_types form && is_dir_kind (Some n.kind)) true ≡ true
    by false fits known = refl
    by true fits known = and_from _ _ (known refl) (and_parts (is_dir_kind (Some n.kind)) _ fits).0

-- a node of earlier rows makes a later row's line a second one
pub second_line : (done rest : List Row) (row : Row) → has_node row.1 done ≡ true → has_second_lines (done ++ row ∷ rest) ≡ true
second_line [] rest row h = absurd (false≢true h)
second_line (first ∷ done) rest row h =
    elim (or_cases (first.1 == row.1) (has_node row.1 done) h) [
      | inl same ↦ or_left (list_any (λ other. other.1 == first.1) (done ++ row ∷ rest)) _
          (ap (λ x. list_any (λ (other : Row). other.1 == x) (done ++ row ∷ rest)) (eqb-true first.1 row.1 same) ∙ own done)
      | inr later ↦ or_right (list_any (λ other. other.1 == first.1) (done ++ row ∷ rest)) _ (second_line done rest row later)
    ]
  where
    own : (rows : List Row) → list_any (λ (other : Row). other.1 == row.1) (rows ++ row ∷ rest) ≡ true
    own [] = or_left (row.1 == row.1) _ (eq-eqb row.1 row.1 refl)
    own (r ∷ rows) = or_right (r.1 == row.1) _ (own rows)

module _ (t : Tree) (f : ℕ → ℕ) where
  pub length-entries : (n : ℕ) (rows : List Row) → length (entries_from t f n rows) ≡ length rows
  length-entries n [] = refl
  length-entries n (row ∷ rows) = ap suc (length-entries (suc n) rows)

  pub entries-push : (n : ℕ) (done : List Row) (row : Row) →
      entries_from t f n (done ++ row ∷ []) ≡ entries_from t f n done ++ entry_for t f (n + length done) row ∷ []
  entries-push n [] row = ap (λ m. entry_for t f m row ∷ []) (omega arith)
  entries-push n (first ∷ done) row =
      ap (λ es. entry_for t f n first ∷ es) (entries-push (suc n) done row)
      ∙ ap (λ m. entry_for t f n first ∷ (entries_from t f (suc n) done ++ entry_for t f m row ∷ [])) (omega arith)

  last_below : (n : ℕ) (done : List Row) → 1 ≤ n → last_number (entries_from t f n done) < n + length done
  last_below n [] h = omega arith
  last_below n (row ∷ []) h = omega arith
  last_below n (row ∷ next ∷ done) h = omega (arith, last_below (suc n) (next ∷ done) (omega arith))

  -- the line of a node, by a test that it passes
  made_early : (K : Option Node → Bool) (n : ℕ) (done : List Row) (x j : ℕ) → first_line n done x ≡ Some j → f x ≡ j →
      K (node_at t x) ≡ true → list_any (λ e. e.number == j && K e.made) (entries_from t f n done) ≡ true
  made_early K n [] x j e is h = absurd (None≢Some j e)
  made_early K n (row ∷ done) x j e is h =
      elim (row.1 == x) as (λ b. (row.1 == x) ≡ b → cond b (Some n) (first_line (suc n) done x) ≡ Some j →
      ((n == j && K (made_under t f n row.1)) || list_any (λ e. e.number == j && K e.made) (entries_from t f (suc n) done)) ≡ true) [
        | true ↦ λ same now. (let own = eqb-true row.1 x same in
            let line = same_Some n j now in
            or_left _ _ (and_from _ _ (eq-eqb n j line)
            (ap (λ y. K (made_under t f n y)) own ∙ ap (λ b. K (cond b (node_at t x) None)) (eq-eqb (f x) n (is ∙ sym line)) ∙ h)))
        | false ↦ λ _ later. or_right _ _ (made_early K (suc n) done x j later is h)
      ] refl e

module _ (t : Tree) (sound : Sound t) (order : List Row) (counts : (p : Row → Bool) → count p order ≡ count p t.rows) where
  -- no earlier line has the name
  free : (s : Spot) (n : ℕ) (done : List Row) → is_living t s.0 ≡ true → list_all (has t.rows) done ≡ true →
      list_any (λ (r : Row). is_eq (spot_cmp s r.0)) done ≡ false → is_taken (entries_from t (number_of order) n done) (number_of order s.0) s.1 ≡ false
  free s n [] living all none = refl
  free s n (r ∷ done) living all none =
      let there = and_parts (has t.rows r) (list_all (has t.rows) done) all in
      let apart = or_parts (is_eq (spot_cmp s r.0)) (list_any (λ (r : Row). is_eq (spot_cmp s r.0)) done) none in
      let says = row_says t sound r.0 r.1 (found_has t.rows r there.0) in
      let rest = free s (suc n) done living there.1 apart.1 in
      elim (number_of order r.0.0 == number_of order s.0 && same_bytes r.0.1 s.1) as (λ b. (number_of order r.0.0 == number_of order s.0 &&
      same_bytes r.0.1 s.1) ≡ b → (b || is_taken (entries_from t (number_of order) (suc n) done) (number_of order s.0) s.1) ≡ false) [
        | true ↦ λ both. (let parts = and_parts (number_of order r.0.0 == number_of order s.0) (same_bytes r.0.1 s.1) both in
            let dirs = same_number t sound order counts r.0.0 s.0 (dir_lives (node_at t r.0.0) says.0) living (eqb-true _ _ parts.0) in
            let names = same_word r.0.1 s.1 parts.1 in
            absurd (false≢true (sym apart.0 ∙ tied s r.0 (λ i. (sym dirs i, sym names i)))))
        | false ↦ λ _. rest
      ] refl

  module _ (done rest : List Row) (row : Row) (split : order ≡ done ++ row ∷ rest) where
    all_there : list_all (has t.rows) (done ++ row ∷ rest) ≡ true
    all_there = subst (λ rows. list_all (has t.rows) rows ≡ true) split (order_has t sound order counts)

    parts_there : (list_all (has t.rows) done ≡ true) × (list_all (has t.rows) (row ∷ rest) ≡ true)
    parts_there = and_parts _ _ (sym (list_all-append (has t.rows) done (row ∷ rest)) ∙ all_there)

    own_row : find_key spot_cmp row.0 t.rows ≡ Some row.1
    own_row = found_has t.rows row (and_parts (has t.rows row) (list_all (has t.rows) rest) parts_there.1).0

    says : (is_dir t row.0.0 ≡ true) × (is_name row.0.1 ≡ true) × (is_living t row.1 ≡ true) × (row.1 ≢ 0)
    says = row_says t sound row.0 row.1 own_row

    split_counts : (p : Row → Bool) → count p order ≡ count p done + (one (p row) + count p rest)
    split_counts p = ap (count p) split ∙ count-append p done (row ∷ rest)

    -- its type is known where some type is
    types_there : is_typed (node_at t row.1) ≡ true → has_types t ≡ true
    types_there typed =
        let p : Row → Bool = λ r. is_typed (node_at t r.1) in
        let own : one (p row) ≡ 1 = ap one typed in
        counted_any p t.rows (omega (arith, counts p, split_counts p, own))

    alone : list_any (λ (r : Row). is_eq (spot_cmp row.0 r.0)) done ≡ false
    alone =
        let once = spot_once t sound order counts row.0 in
        let all = split_counts (λ r. is_eq (spot_cmp row.0 r.0)) in
        let own : one (is_eq (spot_cmp row.0 row.0)) ≡ 1 = ap one (tied row.0 row.0 refl) in
        none_counted (λ (r : Row). is_eq (spot_cmp row.0 r.0)) done (omega (arith, once, all, own))

    number_early : (x j : ℕ) → first_line 1 done x ≡ Some j → number_of order x ≡ j
    number_early x j e = number_is order x j (ap (λ rows. first_line 1 rows x) split ∙ early 1 done (row ∷ rest) x j e)

    -- its directory is that of an earlier line
    in_dir : is_entered done row.0.0 ≡ true → is_earlier_dir (entries_from t (number_of order) 1 done) (number_of order row.0.0) ≡ true
    in_dir enters =
        elim (or_cases (row.0.0 == 0) (has_node row.0.0 done) enters) [
          | inl root ↦ or_left _ _ (eq-eqb _ 0 (ap (number_of order) (eqb-true row.0.0 0 root) ∙ number_root t sound order counts))
          | inr some ↦ (let line = lined 1 done row.0.0 some in
              let number = number_early row.0.0 line.0 line.1 in
              or_right _ _ (subst (λ n. list_any (λ e. e.number == n && makes_dir e.made) (entries_from t (number_of order) 1 done) ≡ true)
              (sym number) (made_early t (number_of order) makes_dir 1 done row.0.0 line.0 line.1 number (dir_made (node_at t row.0.0) says.0))))
        ]

    abbrev line : ℕ
    line = suc (length done)

    -- a node of earlier rows is no directory
    not_dir : has_node row.1 done ≡ true → is_dir t row.1 ≡ false
    not_dir before = elim (is_dir t row.1) as (λ b. is_dir t row.1 ≡ b → b ≡ false) [
      | true ↦ λ dir. (let only = once t sound row.1 dir says.3 in
          let own : one (row.1 == row.1) ≡ 1 = ap one (eq-eqb row.1 row.1 refl) in
          let some = any_counted (λ (r : Row). r.1 == row.1) done before in
          absurd (omega (arith, counts (λ r. r.1 == row.1), split_counts (λ r. r.1 == row.1), only, own, some)))
      | false ↦ λ _. refl
    ] refl

    abbrev MadeFits : Form → Option Node → Type 0
    MadeFits form m = made_fits form (entries_from t (number_of order) 1 done) (entry_for t (number_of order) line row) m ≡ true

    again : (form : Form) → (has_second_lines order ≡ true → knows_hard form ≡ true) → has_node row.1 done ≡ true →
        MadeFits form (made_under t (number_of order) line row.1)
    again form known before =
        let first = lined 1 done row.1 before in
        let number = number_early row.1 first.0 first.1 in
        let less = not_behind 1 done row.1 first.0 first.1 in
        let other : (number_of order row.1 == line) ≡ false = ne_eqb _ _ (λ e. omega (arith, e, number, less)) in
        subst (MadeFits form) (sym (ap (λ b. cond b (node_at t row.1) None) other))
        (and_from _ _ (known (ap has_second_lines split ∙ second_line done rest row before))
        (subst (λ n. is_earlier_other (entries_from t (number_of order) 1 done) n ≡ true) (sym number)
        (made_early t (number_of order) makes_other 1 done row.1 first.0 first.1 number
        (other_made (node_at t row.1) says.2 (not_dir before)))))

    new : (form : Form) → (has_types t ≡ true → knows_types form ≡ true) → leads_to_bytes (made_under t (number_of order) line row.1) ≡ true → has_node row.1 done ≡ false →
        MadeFits form (made_under t (number_of order) line row.1)
    new form typed bytes none =
        let number : number_of order row.1 ≡ line = number_is order row.1 line
        (ap (λ rows. first_line 1 rows row.1) split ∙ late 1 done (row ∷ rest) row.1 (not_lined 1 done row.1 none) ∙
        here (1 + length done) row rest ∙ ap Some (omega arith)) in
        let own = eq-eqb (number_of order row.1) line number in
        let node = living_node (node_at t row.1) says.2 in
        let is : made_under t (number_of order) line row.1 ≡ Some node.0 = ap (λ b. cond b (node_at t row.1) None) own ∙ node.1 in
        let needed : is_typed (Some node.0) ≡ true → knows_types form ≡ true =
        λ h. typed (types_there (ap is_typed node.1 ∙ h)) in
        let target = target_from node.0.kind node.0.target (sound.node row.1 node.0 node.1).1
        (subst (λ m. leads_to_bytes m ≡ true) is bytes) in
        let mount = mount_from form row.1 node.0 (sound.marks row.1 node.0 node.1) (λ h. needed (or_left node.0.mount _ h)) in
        subst (MadeFits form) (sym is) (and_from _ _ own (and_from _ _ (known_from form node.0.kind (λ h. needed (or_right node.0.mount _ h)))
        (and_from _ _ target mount)))

    -- what its line makes stands well
    made : (form : Form) → (has_types t ≡ true → knows_types form ≡ true) → (has_second_lines order ≡ true → knows_hard form ≡ true) → leads_to_bytes (made_under t (number_of order) line row.1) ≡ true →
        MadeFits form (made_under t (number_of order) line row.1)
    made form typed known bytes =
        elim (has_node row.1 done) as (λ b. has_node row.1 done ≡ b → MadeFits form (made_under t (number_of order) line row.1)) [
          | true ↦ again form known
          | false ↦ new form typed bytes
        ] refl

    pub fits_here : (form : Form) → is_entered done row.0.0 ≡ true → (has_types t ≡ true → knows_types form ≡ true) → (has_second_lines order ≡ true → knows_hard form ≡ true)
        → leads_to_bytes (made_under t (number_of order) line row.1) ≡ true → length t.rows < most_listed_of form → length t.rows ≤ 999999 →
        entry_fits form (entries_from t (number_of order) 1 done) (entry_for t (number_of order) line row) ≡ true
    fits_here form enters typed known bytes room few =
        let size = ap length split ∙ length-append done (row ∷ rest) in
        let all = order_length t sound order counts in
        let es : List Entry = entries_from t (number_of order) 1 done in
        let long = length-entries t (number_of order) 1 done in
        and_from _ _ (lt-ltb (last_number es) line (omega (arith, last_below t (number_of order) 1 done (omega arith))))
        (and_from _ _ (le-leb line 999999 (omega (arith, size, all, few)))
        (and_from _ _ (in_dir enters)
        (and_from _ _ says.1
        (and_from _ _ (ap not (free row.0 1 done (dir_lives (node_at t row.0.0) says.0) parts_there.0 alone))
        (and_from _ _ (lt-ltb (length es + 1) (most_listed_of form) (omega (arith, long, size, all, room)))
        (made form typed known bytes))))))

  -- so do all that follow
  fits_on : (form : Form) (done rest : List Row) → order ≡ done ++ rest → all_enter done rest ≡ true →
      (has_types t ≡ true → knows_types form ≡ true) → (has_second_lines order ≡ true → knows_hard form ≡ true) →
      list_all (λ e. leads_to_bytes e.made) (entries_from t (number_of order) (suc (length done)) rest) ≡ true → length t.rows < most_listed_of form →
      length t.rows ≤ 999999 → entries_fit form (entries_from t (number_of order) 1 done) (entries_from t (number_of order) (suc (length done)) rest) ≡ true
  fits_on form done [] split enter typed known bytes room few = refl
  fits_on form done (row ∷ rest) split enter typed known bytes room few =
      let enters = and_parts (is_entered done row.0.0) (all_enter (done ++ row ∷ []) rest) enter in
      let small = and_parts (leads_to_bytes (made_under t (number_of order) (suc (length done)) row.1))
      (list_all (λ e. leads_to_bytes e.made) (entries_from t (number_of order) (suc (suc (length done))) rest)) bytes in
      let next : suc (length (done ++ row ∷ [])) ≡ suc (suc (length done)) = omega (arith, length-append done (row ∷ [])) in
      let more = fits_on form (done ++ row ∷ []) rest (split ∙ sym (append_assoc done (row ∷ []) rest)) enters.1 typed known
      (ap (λ n. list_all (λ e. leads_to_bytes e.made) (entries_from t (number_of order) n rest)) next ∙ small.1) room few in
      let grown : entries_from t (number_of order) 1 (done ++ row ∷ []) ≡ entries_from t (number_of order) 1 done ++
      entry_for t (number_of order) (suc (length done)) row ∷ [] = entries-push t (number_of order) 1 done row ∙
      ap (λ n. entries_from t (number_of order) 1 done ++ entry_for t (number_of order) n row ∷ []) (omega arith) in
      and_from _ _ (fits_here done rest row split form enters.0 typed known small.0 room few)
      ((λ i. entries_fit form (sym grown i) (entries_from t (number_of order) (sym next i) rest)) ∙ more)

  pub all_fit : (form : Form) → all_enter [] order ≡ true → (has_types t ≡ true → knows_types form ≡ true) → (has_second_lines order ≡ true → knows_hard form ≡ true) →
      list_all (λ e. leads_to_bytes e.made) (entries_from t (number_of order) 1 order) ≡ true → length t.rows < most_listed_of form →
      length t.rows ≤ 999999 → entries_fit form [] (entries_from t (number_of order) 1 order) ≡ true
  all_fit form enter typed known bytes room few = fits_on form [] order refl enter typed known bytes room few
