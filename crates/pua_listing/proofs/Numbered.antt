-- First lines and second lines, one row after another.
use Rattle.pua_listing.proofs.Common.{◌≡◌, ℕ, ◌+◌, ◌<◌, Bool, true, false, cond, ◌||◌, ◌==◌, List, [], ◌∷◌, ◌++◌, length}
use Rattle.pua_listing.proofs.Common.{Option, Some, None, refl, sym, ap, ◌∙◌, arith, list_any, ne_eqb, true≢false, Row}
use Rattle.std.proofs.Common.{is_some, get_or, take}
use Rattle.std.specs.Option.{option_or}
use Rattle.std.proofs.lemmas.List.{take_more, map_push, length-map, length-take}
use Rattle.std.proofs.lemmas.Bool.Decides.{nat_tests}
use Rattle.std.proofs.lemmas.List.Folds.{list_any-append}
use Rattle.pua_listing.specs.Entries.{first_line, has_second_lines}
use Rattle.pua_listing.specs.Lent.{row_held, rows_held}
use Rattle.pua_listing.specs.declared.order.TreeRow.{TreeRow}
use Rattle.pua_listing.proofs.FirstLines.{has_node, early, late, lined, not_lined}

turned : (m n : ℕ) → (m == n) ≡ (n == m)
turned m n = grind (arith, nat_tests)

pub is_lined : (done : List Row) (x : ℕ) → is_some (first_line 1 done x) ≡ has_node x done
is_lined done x = elim (has_node x done) as (λ b. has_node x done ≡ b → is_some (first_line 1 done x) ≡ b) [
  | true ↦ λ h. ap is_some (lined 1 done x h).1
  | false ↦ λ h. ap is_some (not_lined 1 done x h)
] refl

shuffled : (a b c e : Bool) → ((a || (e || false)) || (b || c)) ≡ ((a || b) || (e || c))
shuffled true b c e = refl
shuffled false true c true = refl
shuffled false false c true = refl
shuffled false true c false = refl
shuffled false false c false = refl

-- a row of a node that has a line is a second one
pub second_push : (done : List Row) (row : Row) → has_second_lines (done ++ row ∷ []) ≡ (has_second_lines done || has_node row.1 done)
second_push [] row = refl
second_push (first ∷ done) row =
    (λ i. list_any-append (λ (other : Row). other.1 == first.1) done (row ∷ []) i || second_push done row i)
    ∙ ap (λ b. (list_any (λ (other : Row). other.1 == first.1) done || (b || false)) || (has_second_lines done || has_node row.1 done))
    (turned row.1 first.1)
    ∙ shuffled (list_any (λ (other : Row). other.1 == first.1) done) (has_second_lines done) (has_node row.1 done) (first.1 == row.1)

-- one row more, whether or not its node has a line
pub line_push : (done : List Row) (row : Row) (x : ℕ) →
    first_line 1 (done ++ row ∷ []) x ≡ option_or (first_line 1 done x) (cond (row.1 == x) (Some (1 + length done)) None)
line_push done row x = by (first_line 1 done x) refl
  where
    by : (o : Option ℕ) → first_line 1 done x ≡ o →
        first_line 1 (done ++ row ∷ []) x ≡ option_or o (cond (row.1 == x) (Some (1 + length done)) None)
    by None e = late 1 done (row ∷ []) x e
    by (Some j) e = early 1 done (row ∷ []) x j e

-- a map with a line more for a node that has none
module _ (lines : ℕ → Option ℕ) (node line x : ℕ) where
  pub line_stays : is_some (lines node) ≡ true → lines x ≡ option_or (lines x) (cond (node == x) (Some line) None)
  line_stays known = by (lines x) refl
    where
      by : (o : Option ℕ) → lines x ≡ o → o ≡ option_or o (cond (node == x) (Some line) None)
      by (Some j) e = refl
      by None e = sym (ap (λ b. cond b (Some line) None) (ne_eqb node x (λ same. true≢false (sym known ∙ ap (λ y. is_some (lines y)) same ∙
          ap is_some e))))

  pub line_comes : is_some (lines node) ≡ false → cond (node == x) (Some line) (lines x) ≡ option_or (lines x) (cond (node == x) (Some line) None)
  line_comes new = by (lines x) refl
    where
      by : (o : Option ℕ) → lines x ≡ o → cond (node == x) (Some line) o ≡ option_or o (cond (node == x) (Some line) None)
      by None e = refl
      by (Some j) e = ap (λ b. cond b (Some line) (Some j)) (ne_eqb node x (λ same. true≢false (sym (ap is_some e) ∙ ap (λ y. is_some (lines y))
          (sym same) ∙ new)))

-- the rows so far, with one more
pub rows_more : (order : List TreeRow) (k : ℕ) (row : TreeRow) → k < length order → row ≡ get_or order k row →
    rows_held (take (k + 1) order) ≡ rows_held (take k order) ++ row_held row ∷ []
rows_more order k row less at = ap rows_held (take_more order k row less) ∙ ap (λ r. rows_held (take k order ++ r ∷ [])) (sym at) ∙
    map_push row_held (take k order) row

pub rows_so_far : (order : List TreeRow) (k : ℕ) → k < length order → length (rows_held (take k order)) ≡ k
rows_so_far order k less = length-map (take k order) row_held ∙ length-take k order ∙ omega arith

pub lines_more : (order : List TreeRow) (k : ℕ) (row : TreeRow) → k < length order → row ≡ get_or order k row → (old new : ℕ → Option ℕ) →
    ((x : ℕ) → old x ≡ first_line 1 (rows_held (take k order)) x) → ((x : ℕ) → new x ≡ option_or (old x) (cond (row.node == x) (Some (k + 1)) None)) →
    (x : ℕ) → new x ≡ first_line 1 (rows_held (take (k + 1) order)) x
lines_more order k row less at old new so_far step x =
    let number : 1 + length (rows_held (take k order)) ≡ k + 1 = omega (arith, rows_so_far order k less) in
    step x
    ∙ (λ i. option_or (so_far x i) (cond (row.node == x) (Some (sym number i)) None))
    ∙ sym (line_push (rows_held (take k order)) (row_held row) x)
    ∙ ap (λ rows. first_line 1 rows x) (sym (rows_more order k row less at))

pub second_more : (order : List TreeRow) (k : ℕ) (row : TreeRow) → k < length order → row ≡ get_or order k row → (old : ℕ → Option ℕ) →
    ((x : ℕ) → old x ≡ first_line 1 (rows_held (take k order)) x) → (second known : Bool) → second ≡ has_second_lines (rows_held (take k order)) →
    known ≡ is_some (old row.node) → (second || known) ≡ has_second_lines (rows_held (take (k + 1) order))
second_more order k row less at old so_far second known were is =
    (λ i. were i || (is ∙ ap is_some (so_far row.node) ∙ is_lined (rows_held (take k order)) row.node) i)
    ∙ sym (second_push (rows_held (take k order)) (row_held row))
    ∙ ap has_second_lines (sym (rows_more order k row less at))
