-- The rows of a list for ever at or below a path, and the lines that they tell.
use Rattle.pua_tool.proofs.Common.{◌≡◌, ◌++◌, ◌∙◌, ◌∷◌, [], ap, refl, sym, ℕ, List, None, Option, ProcessState, Some, Tree}
use Rattle.std.proofs.Common.{Bool, true, false, cond}
use Rattle.std.proofs.lemmas.List.Elements.{filter-append}
use Rattle.std.specs.List.{AllByRecursion, starts_with}
use Rattle.std.specs.Prelude.{◌&&◌, filter, if◌then◌else◌}
use Rattle.pua_tree.specs.Names.{same_bytes}
use Rattle.pua_audit.specs.Reach.{Word}
use Rattle.pua_objects.proofs.ForCallers.{Among, filter_among}
use Rattle.pua_ever.specs.Ever.{EverLine, Thing, Stands, Comes, has_ever_calls}
use Rattle.pua_ever.specs.EverLines.{IsThing, line_with}
use Rattle.pua_ever.specs.EverList.{AreEverTold, IsRowOn, word_of_row}
use Rattle.pua_ever.specs.declared.line.EverLine as given
use Rattle.pua_ever.specs.declared.line.EverThing.{EverThing}
use Rattle.pua_ever.specs.declared.line.EverThing.TheVariants as told
use Rattle.pua_ever.specs.declared.list.EverRow.{EverRow}
use Rattle.pua_tool.specs.EverHowTexts.{has_path, is_below, lines_below}
use Rattle.pua_tool.specs.RowsBelow.{is_row_below, is_told_at, kept_rows, rows_below}

pub among_below : (below : Option Word) (lines : List EverLine) (line : EverLine) → Among (lines_below below lines) line → Among lines line
among_below None lines line a = a
among_below (Some path) lines line a = (filter_among (is_below path) lines line a).0

module _ (t : Tree) (path : Word) where
  told_at : (about : Thing) (thing : EverThing) → IsThing t about thing → has_path about ≡ is_told_at thing
  told_at (Stands subject) (told.Stands kind) is = refl
  told_at (Comes new) (told.Comes kind) is = refl
  told_at (Stands subject) (told.Comes kind) is = absurd is
  told_at (Comes new) (told.Stands kind) is = absurd is

  left : (b c : Bool) (line : EverLine) → is_below path line ≡ b →
      cond b (cond c (line ∷ []) []) [] ≡ filter (is_below path) (cond c (line ∷ []) [])
  left true true line is = sym (ap (λ b. cond b (line ∷ []) []) is)
  left true false line is = refl
  left false true line is = sym (ap (λ b. cond b (line ∷ []) []) is)
  left false false line is = refl

  -- the line of a row, if it is at the path or below it
  first_below : (word : Word) (about : Thing) (line : given.EverLine) (b : Bool) → is_below path (line_with word about line) ≡ b →
      filter has_ever_calls (line_with word about (record { thing = line.thing; calls = if b then line.calls else 0 }) ∷ [])
      ≡ filter (is_below path) (filter has_ever_calls (line_with word about line ∷ []))
  first_below word about line true is = left true (has_ever_calls (line_with word about line)) (line_with word about line) is
  first_below word about line false is = left false (has_ever_calls (line_with word about line)) (line_with word about line) is

  rows_told : (before : Word) (rows : List EverRow) (lines : List EverLine) → AreEverTold t before rows lines [] →
      AreEverTold t before (rows_below path before rows) (filter (is_below path) lines) []
  rows_told before [] lines ever = ap (filter (is_below path)) ever
  rows_told before (row ∷ rows) lines ever =
      let word : Word = word_of_row before row in
      let about = ever.0 in
      let line : EverLine = line_with word about row.line in
      let more = filter (is_below path) ever.1 in
      let is : is_below path line ≡ is_row_below path word row =
      ap (λ b. b && starts_with same_bytes word path) (told_at about row.line.thing ever.2) in (
        about,
        more,
        ever.2,
        ap (filter (is_below path)) ever.3
            ∙ filter-append (is_below path) (filter has_ever_calls (line ∷ [])) ever.1
            ∙ ap (λ front. front ++ more) (sym (first_below word about row.line (is_row_below path word row) is)),
        rows_told word rows ever.1 ever.4,
        ever.5,
      )

-- rows that are left tell the lines that are left
pub kept_told : (t : Tree) (below : Option Word) (rows : List EverRow) (lines : List EverLine) → AreEverTold t [] rows lines [] →
    AreEverTold t [] (kept_rows below rows) (lines_below below lines) []
kept_told t None rows lines ever = ever
kept_told t (Some path) rows lines ever = rows_told t path [] rows lines ever

rows_on : (t : Tree) (h : ProcessState) (path before : Word) (rows : List EverRow) → AllByRecursion (IsRowOn t h) rows →
    AllByRecursion (IsRowOn t h) (rows_below path before rows)
rows_on t h path before [] on = tt
rows_on t h path before (row ∷ rows) on = (on.0, rows_on t h path (word_of_row before row) rows on.1)

pub kept_on : (t : Tree) (h : ProcessState) (below : Option Word) (rows : List EverRow) → AllByRecursion (IsRowOn t h) rows →
    AllByRecursion (IsRowOn t h) (kept_rows below rows)
kept_on t h None rows on = on
kept_on t h (Some path) rows on = rows_on t h path [] rows on
