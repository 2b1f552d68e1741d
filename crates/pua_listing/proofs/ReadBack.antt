-- The listing of a tree is read as the same tree.
use Rattle.pua_listing.proofs.Common.{◌≡◌, ℕ, suc, ◌+◌, ◌≤◌, ◌<◌, ◌^◌, Bool, true, false, cond, ◌||◌, ◌==◌, List, [], ◌∷◌, ◌++◌}
use Rattle.pua_listing.proofs.Common.{length, map, Option, Some, None, refl, sym, ap, subst, ◌∙◌, arith, list_all}
use Rattle.pua_listing.proofs.Common.{and_parts, and_from, Row, in_order, Tree, Sound, WellFormed}
use Rattle.std.proofs.Common.{unwrap_or, nat_lt, nat_le, Ok, Err, codes, option_and_then}
use Rattle.std.proofs.lemmas.Bool.{ltb-false, leb-false, or_parts, le-ltb, lt-ltb}
use Rattle.std.specs.Str.Lines.{lines}
use Rattle.pua_tree.specs.Limits.{most_names, most_listed}
use Rattle.std.specs.List.{list_any}
use Rattle.pua_tree.specs.LentRows.{lent_entry}
use Rattle.pua_tree.specs.declared.tree.LentRow.{LentRow}
use Rattle.pua_tree.specs.Tree.{Node, node_at}
use Rattle.pua_tree.specs.Listing.{Entry, tree_of, knows_hard, knows_types, most_listed_of}
use Rattle.pua_tree.specs.Grammar.{entry_text, header_text}
use Rattle.pua_tree.specs.declared.form.Form.{Form}
use Rattle.pua_tree.specs.declared.form.Form.TheVariants.{First, Second, Third}
use Rattle.pua_tree.proofs.ForCallers.{sound_from, row_says, name_is_bytes, listings_are_read, past, same_Ok}
use Rattle.pua_listing.specs.Entries.{first_line, number_of, made_under, entry_for, entries_from, entries, new_number, has_second_lines}
use Rattle.pua_listing.specs.Entries.{is_target_of_bytes, leads_to_bytes}
use Rattle.pua_listing.specs.Listed.{form_for, form_of, has_second_names, has_types, head_text, is_typed, text_of_lines, listing_text, listed}
use Rattle.pua_listing.specs.Same.{ReadsBack}
use Rattle.pua_listing.specs.Laws.{LeadsToBytes, ListingsReadBack}
use Rattle.pua_listing.specs.declared.fault.ListFault.TheVariants.{TooManyNames}
use Rattle.std.proofs.lemmas.List.{length-map}
use Rattle.pua_listing.specs.Lent.{row_held, rows_held}
use Rattle.pua_listing.specs.declared.order.TreeRow.{TreeRow}
use Rattle.pua_listing.proofs.FirstLines.{not_behind}
use Rattle.pua_listing.proofs.Fitting.{all_fit}
use Rattle.pua_listing.proofs.RowForEachNode.{order_has, order_length}
use Rattle.pua_listing.proofs.Renumbering.{is_renumbered}
use Rattle.pua_listing.proofs.SecondLines.{second_lines}
use Rattle.pua_listing.proofs.Spelled.{is_line, entry_printed, head_printed, lines_of_text, text-append}
use Rattle.pua_listing.proofs.Walking.{has, found_has, order_counts, order_enters}

-- numbers are no greater than there are rows
number_small : (rows : List Row) (x : ℕ) → number_of rows x ≤ length rows
number_small rows x = by (first_line 1 rows x) refl
  where
    by : (o : Option ℕ) → first_line 1 rows x ≡ o → unwrap_or o 0 ≤ length rows
    by None e = omega arith
    by (Some j) e = omega (arith, not_behind 1 rows x j e)

knows : (t : Tree) (types second : Bool) → second ≡ true → knows_hard (form_for t types second) ≡ true
knows t types second h =
    elim (types || (nat_lt most_names t.room || nat_le most_listed (length t.rows))) as (λ w. knows_hard (cond w Third (cond second Second First)) ≡ true) [
      | true ↦ refl
      | false ↦ ap (λ b. knows_hard (cond b Second First)) h
    ]

types_known : (t : Tree) (types second : Bool) → types ≡ true → knows_types (form_for t types second) ≡ true
types_known t types second h = ap (λ b. knows_types (form_for t b second)) h

has_room : (t : Tree) (types second : Bool) → length t.rows + 1 ≤ 1000000 → length t.rows < most_listed_of (form_for t types second)
has_room t types second few = by (types || (nat_lt most_names t.room || nat_le most_listed (length t.rows))) refl second
  where
    by : (w : Bool) → (types || (nat_lt most_names t.room || nat_le most_listed (length t.rows))) ≡ w → (b : Bool) →
        length t.rows < most_listed_of (cond w Third (cond b Second First))
    by true e b = omega arith
    by false e true = let short = leb-false most_listed (length t.rows) (or_parts (nat_lt most_names t.room) _ (or_parts types _ e).1).1 in omega arith
    by false e false = let short = leb-false most_listed (length t.rows) (or_parts (nat_lt most_names t.room) _ (or_parts types _ e).1).1 in omega arith

module _ (t : Tree) (form : Form) (sound : Sound t) (f : ℕ → ℕ) (small : (x : ℕ) → f x < 2 ^ 64) where
  printed_from : (n : ℕ) (rows : List Row) → list_all (has t.rows) rows ≡ true →
      list_all (λ e. leads_to_bytes e.made) (entries_from t f n rows) ≡ true → n + length rows ≤ 1000000 →
      list_all is_line (map (entry_text form) (entries_from t f n rows)) ≡ true
  printed_from n [] all bytes few = refl
  printed_from n (row ∷ rows) all bytes few =
      let there = and_parts (has t.rows row) (list_all (has t.rows) rows) all in
      let made = and_parts (leads_to_bytes (made_under t f n row.1)) (list_all (λ e. leads_to_bytes e.made) (entries_from t f (suc n) rows)) bytes in
      let says = row_says t sound row.0 row.1 (found_has t.rows row there.0) in
      and_from _ _ (entry_printed form (entry_for t f n row) (omega arith) (small row.0.0) (small row.1) (name_is_bytes row.0.1 says.1) made.0)
      (printed_from (suc n) rows there.1 made.1 (omega arith))

pub reads_back : (t : Tree) → WellFormed t → length t.rows + 1 ≤ 1000000 → list_all (λ e. leads_to_bytes e.made) (entries t) ≡ true →
    ReadsBack t (listing_text t)
reads_back t well few bytes =
    let sound = sound_from t well in
    let counts = order_counts t sound in
    let order = in_order t in
    let form = form_of t in
    let long = order_length t sound order counts in
    let fit = all_fit t sound order counts form (order_enters t sound) (types_known t (has_types t) (has_second_names t)) (λ some. knows t (has_types t) (has_second_names t) (sym (second_lines t order counts) ∙ some))
    bytes (has_room t (has_types t) (has_second_names t) few) (omega arith) in
    let small : (x : ℕ) → number_of order x < 2 ^ 64 = λ x. omega (arith, number_small order x) in
    let printed = printed_from t form sound (number_of order) small 1 order (order_has t sound order counts) bytes (omega arith) in
    let text = ap lines (sym (text-append (header_text form ∷ codes "0 dir" ∷ []) (map (entry_text form) (entries t))))
    ∙ lines_of_text (header_text form ∷ codes "0 dir" ∷ map (entry_text form) (entries t)) (and_from _ _ (head_printed form) printed) in (
      tree_of form (entries t),
      (listings_are_read (listing_text t) (tree_of form (entries t))).1 (form, entries t, fit, text, refl),
      is_renumbered t sound order counts form,
    )

-- links that lead to bytes are listed so
made_of_bytes : (t : Tree) → LeadsToBytes t → (x : ℕ) → leads_to_bytes (node_at t x) ≡ true
made_of_bytes t leads x = by (node_at t x) refl
  where
    target : (n : Node) → node_at t x ≡ Some n → (o : Option (List ℕ)) → n.target ≡ o → is_target_of_bytes o ≡ true
    target n e None q = refl
    target n e (Some bytes) q = leads x bytes (ap (option_and_then (λ n. n.target)) e ∙ q)

    by : (o : Option Node) → node_at t x ≡ o → leads_to_bytes o ≡ true
    by None e = refl
    by (Some n) e = target n e n.target refl

entries_of_bytes : (t : Tree) → LeadsToBytes t → (f : ℕ → ℕ) (n : ℕ) (rows : List Row) →
    list_all (λ e. leads_to_bytes e.made) (entries_from t f n rows) ≡ true
entries_of_bytes t leads f n [] = refl
entries_of_bytes t leads f n (row ∷ rows) =
    and_from _ _ (elim (f row.1 == n) as (λ b. leads_to_bytes (cond b (node_at t row.1) None) ≡ true) [
      | true ↦ made_of_bytes t leads row.1
      | false ↦ refl
    ]) (entries_of_bytes t leads f (suc n) rows)

pub listings_read_back : ListingsReadBack
listings_read_back t bytes well leads is =
    let read = past (nat_lt 1000000 (length t.rows + 1)) TooManyNames (Ok (listing_text t)) bytes is in
    subst (ReadsBack t) (same_Ok (listing_text t) bytes read.1)
    (reads_back t well (ltb-false 1000000 (length t.rows + 1) read.0) (entries_of_bytes t leads (new_number t) 1 (in_order t)))

-- ---- what the code writes

pub listed_few : (t : Tree) (text : List ℕ) → length t.rows < 1000000 → text ≡ listing_text t → listed t ≡ Ok text
listed_few t text few is =
    ap (λ b. cond b (Err TooManyNames) (Ok (listing_text t))) (le-ltb 1000000 (length t.rows + 1) (omega arith)) ∙ ap Ok (sym is)

pub listed_many : (t : Tree) → 1000000 ≤ length t.rows → listed t ≡ Err TooManyNames
listed_many t many = ap (λ b. cond b (Err TooManyNames) (Ok (listing_text t))) (lt-ltb 1000000 (length t.rows + 1) (omega arith))

pub text_reads_back : (t : Tree) (text : List ℕ) → WellFormed t → length t.rows < 1000000 →
    list_all (λ e. leads_to_bytes e.made) (entries t) ≡ true → text ≡ listing_text t → ReadsBack t text
text_reads_back t text well few bytes is = subst (ReadsBack t) (sym is) (reads_back t well (omega arith) bytes)

module _ (t : Tree) (order : List Row) (f : ℕ → ℕ) (order_is : order ≡ in_order t) (same : (x : ℕ) → f x ≡ number_of order x) where
  entries_are : entries_from t f 1 order ≡ entries t
  entries_are = (λ i. entries_from t (λ x. same x i) 1 order) ∙ ap (λ rows. entries_from t (number_of rows) 1 rows) order_is

  pub text_is : (types second : Bool) (form : Form) (head text : List ℕ) → WellFormed t → types ≡ has_types t →
      second ≡ has_second_lines order → form ≡ form_for t types second → head ≡ head_text form →
      text ≡ head ++ text_of_lines (map (entry_text form) (entries_from t f 1 order)) → text ≡ listing_text t
  text_is types second form head text well types_is second_is form_is head_is is =
      let lines = second_is ∙ ap has_second_lines order_is ∙ second_lines t (in_order t) (order_counts t (sound_from t well)) in
      let own : form ≡ form_of t = form_is ∙ (λ i. form_for t (types_is i) (lines i)) in
      is ∙ (λ i. (head_is ∙ ap head_text own) i ++ text_of_lines (map (entry_text (own i)) (entries_are i)))

  pub bytes_are : list_all (λ e. leads_to_bytes e.made) (entries_from t f 1 order) ≡ true → list_all (λ e. leads_to_bytes e.made) (entries t) ≡ true
  bytes_are small = ap (list_all (λ (e : Entry). leads_to_bytes e.made)) (sym entries_are) ∙ small

-- whether some type is known, by the rows that the tree lends
pub types_are : (t : Tree) (rows : List LentRow) (types : Bool) → map lent_entry rows ≡ t.rows →
    types ≡ list_any (λ row. is_typed (node_at t row.node)) rows → types ≡ has_types t
types_are t rows types same is = is ∙ each rows ∙ ap (list_any (λ row. is_typed (node_at t row.1))) same
  where
    each : (rs : List LentRow) → list_any (λ row. is_typed (node_at t row.node)) rs ≡ list_any (λ row. is_typed (node_at t row.1)) (map lent_entry rs)
    each [] = refl
    each (r ∷ rs) = ap (λ b. is_typed (node_at t r.node) || b) (each rs)

-- there are as many lines as rows
pub as_many : (t : Tree) → WellFormed t → (order : List TreeRow) → rows_held order ≡ in_order t → length order ≡ length t.rows
as_many t well order is =
    let sound = sound_from t well in
    sym (length-map order row_held) ∙ ap length is ∙ order_length t sound (in_order t) (order_counts t sound)
