-- The rows of a list for ever at or below a path, as the code leaves them: the others have no calls.
use Rattle.std.specs.Prelude.{◌≡◌, ℕ, Bool, true, false, ◌&&◌, if◌then◌else◌, List, [], ◌∷◌, Option, Some, None, Ok}
use Rattle.std.specs.List.{starts_with}
use Rattle.pua_tree.specs.Names.{same_bytes}
use Rattle.pua_tree.specs.Tree.{Tree}
use Rattle.pua_policy.specs.States.{ProcessState}
use Rattle.pua_audit.specs.Reach.{Word}
use Rattle.pua_ever.specs.EverList.{word_of_row}
use Rattle.pua_ever.specs.declared.line.EverThing.{EverThing}
use Rattle.pua_ever.specs.declared.line.EverThing.TheVariants as told
use Rattle.pua_ever.specs.declared.list.EverRow.{EverRow}
use Rattle.pua_tool.specs.EverHowTexts.{below_asked}

-- what stands or could stand now has a path
abbrev pub is_told_at : EverThing → Bool
is_told_at (told.Stands kind) = true
is_told_at (told.Comes kind) = false

-- the row to which names lead is at a path or below it
abbrev pub is_row_below : Word → Word → EverRow → Bool
is_row_below path word row = is_told_at row.line.thing && starts_with same_bytes word path

abbrev pub row_below : Word → Word → EverRow → EverRow
row_below path word row =
    record row { line = record { thing = row.line.thing; calls = if is_row_below path word row then row.line.calls else 0 } }

-- rows, by the names that lead to the row before them
abbrev pub rows_below : Word → Word → List EverRow → List EverRow
rows_below path before [] = []
rows_below path before (row ∷ rows) =
    row_below path (word_of_row before row) row ∷ rows_below path (word_of_row before row) rows

-- all rows, or these
abbrev pub kept_rows : Option Word → List EverRow → List EverRow
kept_rows None rows = rows
kept_rows (Some path) rows = rows_below path [] rows

-- rows are left by what was asked
pub record IsKeptBelow (t : Tree) (h : ProcessState) (path : Option (List ℕ)) (rows kept : List EverRow) : Type 0 where
  pub below : Option Word
  pub asked : below_asked t h path ≡ Ok below
  pub are : kept ≡ kept_rows below rows
