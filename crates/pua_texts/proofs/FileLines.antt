-- The lines of what a process has open, one after another.
use Rattle.pua_texts.proofs.Common.{◌≡◌, ◌==◌, ℕ, ◌+◌, ◌<◌, ◌≤◌, Bool, true, false, List, [], ◌∷◌, ◌++◌, map, flat_map, drop, length, refl}
use Rattle.pua_texts.proofs.Common.{sym, ap, ◌∙◌, append_assoc, append-nil, slice_index_or, drop_more, drop_of_length-le, codes}
use Rattle.pua_texts.proofs.Common.{arith, Bor, suc, Tree}
use Rattle.std.proofs.Common.{zero}
use Rattle.std.proofs.lemmas.Bool.{eq-eqb}
use Rattle.std.specs.Prelude.{◌||◌, if◌then◌else◌}
use Rattle.std.specs.List.{Contains, list_any}
use Rattle.pua_tree.specs.LentRows.{lent_entry}
use Rattle.pua_tree.specs.Tree.{Spot, is_dir}
use Rattle.pua_tree.specs.declared.tree.LentRow.{LentRow}
use Rattle.pua_policy.specs.States.{held_set}
use Rattle.pua_policy.specs.declared.open_file.OpenFile.{OpenFile}
use Rattle.pua_why.specs.Texts.{dir_text, spot_text}
use Rattle.pua_texts.proofs.OpeningsPrinted.{in_pieces}
use Rattle.pua_texts.specs.FileLines.{FilesArePrinted, file_lines, has_name, held_line, lines_at, named_line, uses_text}

-- a descriptor as it is lent
abbrev pub shown : Bor ℕ × Bor OpenFile → ℕ × OpenFile
shown held = (held.0.now, held.1.now)

-- the lines that are still to come
abbrev pub still_open : Tree → ℕ → List (Bor ℕ × Bor OpenFile) → ℕ → List ℕ
still_open t set lent i = flat_map (file_lines t set) (map shown (drop i lent))

pub file_next : (t : Tree) (set : ℕ) (lent : List (Bor ℕ × Bor OpenFile)) (held : Bor ℕ × Bor OpenFile) (i : ℕ) (text new : List ℕ) →
    i < length lent → held ≡ slice_index_or lent i held → new ≡ text ++ file_lines t set (shown held) →
    new ++ still_open t set lent (i + 1) ≡ text ++ still_open t set lent i
file_next t set lent held i text new within is added =
    ap (λ s. s ++ still_open t set lent (i + 1)) added
    ∙ append_assoc text (file_lines t set (shown held)) (still_open t set lent (i + 1))
    ∙ ap (λ hs. text ++ flat_map (file_lines t set) (map shown hs))
    (sym (drop_more lent i held within ∙ ap (λ h. h ∷ drop (i + 1) lent) (sym is)))

-- those of the rows that are still to come
abbrev pub still_named : (List ℕ → List ℕ) → Tree → ℕ → List LentRow → ℕ → List ℕ
still_named line t node rows i = flat_map (named_line line t node) (map lent_entry (drop i rows))

pub row_next : (line : List ℕ → List ℕ) (t : Tree) (node : ℕ) (rows : List LentRow) (row : LentRow) (i : ℕ) (text new all : List ℕ) →
    i < length rows → row ≡ slice_index_or rows i row → new ≡ text ++ named_line line t node (lent_entry row) →
    text ++ still_named line t node rows i ≡ all → new ++ still_named line t node rows (i + 1) ≡ all
row_next line t node rows row i text new all within is added begun =
    ap (λ s. s ++ still_named line t node rows (i + 1)) added
    ∙ append_assoc text (named_line line t node (lent_entry row)) (still_named line t node rows (i + 1))
    ∙ ap (λ rs. text ++ flat_map (named_line line t node) (map lent_entry rs))
    (sym (drop_more rows i row within ∙ ap (λ r. r ∷ drop (i + 1) rows) (sym is)))
    ∙ begun

pub rows_done : (line : List ℕ → List ℕ) (t : Tree) (node : ℕ) (rows : List LentRow) (i : ℕ) (text : List ℕ) → length rows ≤ i →
    text ++ still_named line t node rows i ≡ text
rows_done line t node rows i text past =
    ap (λ rs. text ++ flat_map (named_line line t node) (map lent_entry rs)) (drop_of_length-le rows past) ∙ append-nil text

-- a row is of a node as the row that is lent is
pub any_lent : (node : ℕ) (rows : List LentRow) → list_any (λ (row : LentRow). row.node == node) rows ≡ has_name (map lent_entry rows) node
any_lent node [] = refl
any_lent node (row ∷ rows) = ap (λ b. (row.node == node) || b) (any_lent node rows)

-- the lines of what is no directory and has a name
at_rows : (line : List ℕ → List ℕ) (t : Tree) (node : ℕ) → is_dir t node ≡ false → has_name t.rows node ≡ true →
    flat_map (named_line line t node) t.rows ≡ lines_at line t node
at_rows line t node other some =
    let rows = flat_map (named_line line t node) t.rows in
    ap (λ b. if b then rows else line (codes "-")) (sym some)
    ∙ ap (λ b. if b then line (dir_text t node) else (if has_name t.rows node then rows else line (codes "-"))) (sym other)

-- the law

-- a row of a node is one of its names
named : (rows : List (Spot × ℕ)) (spot : Spot) (node : ℕ) → Contains rows (spot, node) → has_name rows node ≡ true
named [] spot node (k, low, is) = absurd (omega (arith, low))
named (row ∷ rows) spot node (zero, low, is) =
    ap (λ b. b || has_name rows node) (ap (λ (r : Spot × ℕ). r.1 == node) is ∙ eq-eqb node node refl)
named (row ∷ rows) spot node (suc k, low, is) =
    ap (λ b. (row.1 == node) || b) (named rows spot node (k, omega (arith, low), is)) ∙ or_true (row.1 == node)
  where
    or_true : (b : Bool) → (b || true) ≡ true
    or_true true = refl
    or_true false = refl

pub files_are_printed : FilesArePrinted
files_are_printed = record {
  each = λ t h number file living there.
      let found = in_pieces (file_lines t (held_set h)) h.files (number, file) there in (
        found.0,
        found.1,
        ap (λ ended. if ended then [] else flat_map (file_lines t (held_set h)) h.files) living ∙ found.2,
      );
  named = λ t set number file spot other there.
      let line = held_line number file.kind (uses_text set file) in
      let found = in_pieces (named_line line t file.node) t.rows (spot, file.node) there in (
        found.0,
        found.1,
        sym (at_rows line t file.node other (named t.rows spot file.node there))
            ∙ found.2
            ∙ ap (λ b. found.0 ++ (if b then line (spot_text t spot) else []) ++ found.1) (eq-eqb file.node file.node refl),
      );
}
