-- The rows of a list for ever as a vector: each says how many names of the row before lead to it.
use Rattle.std.specs.Prelude.{◌≡◌, ⊤, ℕ, Bool, true, List, [], ◌∷◌, ◌++◌, filter, flat_map, map, take, Option, Some, None, IfSome, is_some, option_map}
use Rattle.pua_tree.specs.Tree.{Tree, Spot, is_within, look}
use Rattle.pua_path.specs.declared.found.Found.TheVariants.{Slot, Whole}
use Rattle.pua_path.specs.declared.found.Way.TheVariants.{Named, Top}
use Rattle.pua_policy.specs.declared.answer.Cover.{Cover}
use Rattle.pua_policy.specs.declared.object.Object.{Object}
use Rattle.pua_calls.specs.Calls.{CallTable}
use Rattle.pua_calls.specs.CallSets.{has}
use Rattle.pua_calls.specs.declared.call.Call.{Call}
use Rattle.pua_policy.specs.States.{ProcessState, root_dir}
use Rattle.pua_audit.specs.Reach.{Word}
use Rattle.pua_objects.specs.Items.{SubjectFits, cover_on, object_on, subject_given}
use Rattle.pua_objects.specs.ListItems.{items_told, last_name, last_word, with_name}
use Rattle.pua_objects.specs.Objects.{At, Others, Subject}
use Rattle.pua_objects.specs.declared.kind.ObjectKind.TheVariants as kind
use Rattle.pua_objects.specs.declared.list.ListItem.{ListItem}
use Rattle.pua_ever.specs.Ever.{Thing, EverLine, Stands, Comes, has_ever_calls, is_ever_allowed, own_spot}
use Rattle.pua_ever.specs.EverLines.{IsThing, both_of, ever_lines_of, line_with, made_left, new_of}
use Rattle.pua_ever.specs.ShownForEver.{is_inside}
use Rattle.pua_ever.specs.declared.line.EverThing.TheVariants as told
use Rattle.pua_ever.specs.declared.list.EverAbout.{EverAbout}
use Rattle.pua_ever.specs.declared.list.EverAbout.TheVariants as ever_about
use Rattle.pua_ever.specs.declared.list.EverPlace.{EverPlace}
use Rattle.pua_ever.specs.declared.list.EverPlace.TheVariants as place
use Rattle.pua_ever.specs.declared.made.Made.{Made}
use Rattle.pua_ever.specs.declared.made.Made.TheVariants as made
use Rattle.pua_ever.specs.declared.list.EverRow.{EverRow}

-- the names that lead to a row, by those that lead to the row before
abbrev pub word_of_row : Word → EverRow → Word
word_of_row before row = with_name (take row.depth before) (option_map (λ name. name.now) row.name)

abbrev pub last_row_word : Word → List EverRow → Word
last_row_word before [] = before
last_row_word before (row ∷ rows) = last_row_word (word_of_row before row) rows

-- what stands or could stand at a place, by its name, if it has one
abbrev pub subject_at : Tree → Option (List ℕ) → EverPlace → Option Subject
subject_at t name place.Root = Some (At (Whole 0 Top))
subject_at t name (place.Dir id dir) = option_map (λ own. At (Whole id (Named dir own))) name
subject_at t name (place.Others dir) = Some (Others dir)
subject_at t name (place.Name dir) = option_map (λ own. At (Slot dir own (look t dir own))) name

-- the directory in which that stands, or which it is
abbrev pub dir_at : EverPlace → ℕ
dir_at place.Root = 0
dir_at (place.Dir id dir) = id
dir_at (place.Others dir) = dir
dir_at (place.Name dir) = dir

-- what a row is about
abbrev pub thing_by : Tree → Option (List ℕ) → EverAbout → Option Thing
thing_by t name (ever_about.Stands at object cover) = option_map Stands (subject_at t name at)
thing_by t name (ever_about.Freed dir) = option_map (λ own. Stands (At (Slot dir own None))) name
thing_by t name (ever_about.Comes made) = Some (Comes (new_of made))

abbrev pub own_name : EverRow → Option (List ℕ)
own_name row = option_map (λ name. name.now) row.name

abbrev pub thing_of : Tree → EverRow → Option Thing
thing_of t row = thing_by t (own_name row) row.about

-- what rows are about, with their names and marks
abbrev pub about_of : EverRow → Option (List ℕ) × EverAbout × Bool
about_of row = (own_name row, row.about, row.inside)

abbrev pub abouts : List EverRow → List (Option (List ℕ) × EverAbout × Bool)
abouts rows = map about_of rows

-- rows tell these lines but for the rest: one each, but for those without calls
abbrev pub AreEverTold : Tree → Word → List EverRow → List EverLine → List EverLine → Type 0
AreEverTold t before [] lines rest = lines ≡ rest
AreEverTold t before (row ∷ rows) lines rest =
    (about : Thing) × (more : List EverLine) × IsThing t about row.line.thing
    × (lines ≡ filter has_ever_calls (line_with (word_of_row before row) about row.line ∷ []) ++ more)
    × AreEverTold t (word_of_row before row) rows more rest
    × (thing_of t row ≡ Some about)

-- what stands or could stand is of the tree, is what a call is on there, and has this cover
pub record IsStandingOn (t : Tree) (h : ProcessState) (seen : Object) (left : Cover) (subject : Subject) : Type 0 where
  pub fits : SubjectFits t subject
  pub object : seen ≡ object_on t subject
  pub cover : left ≡ cover_on t h subject

-- so is what a row is about; something stands at a name that can come to be free
abbrev pub IsAboutOn : Tree → ProcessState → Option (List ℕ) → EverAbout → Type 0
IsAboutOn t h name (ever_about.Stands at object cover) = IfSome (subject_at t name at) (IsStandingOn t h object cover)
IsAboutOn t h name (ever_about.Freed dir) = IfSome name (λ own. is_some (look t dir own) ≡ true)
IsAboutOn t h name (ever_about.Comes made) = ⊤

-- a row says whether what it is about is at or below a root
abbrev pub IsMarked : Tree → ℕ → EverRow → Type 0
IsMarked t root row = (about : Thing) → thing_of t row ≡ Some about → row.inside ≡ is_inside t root about

-- and it says so of the root of the process
abbrev pub IsRowOn : Tree → ProcessState → EverRow → Type 0
IsRowOn t h row = IsAboutOn t h (own_name row) row.about × IsMarked t (root_dir h) row

-- whether the name at which an item stands is in a directory at or below the root
abbrev pub IsOwnInside : Tree → ProcessState → ListItem → Bool → Type 0
IsOwnInside t h item inside = (spot : Spot) → own_spot (subject_given t item.item.subject) ≡ Some spot → inside ≡ is_within t spot.0 (root_dir h)

-- the calls of a row are those that can ever be allowed on what an item is about
pub record IsStandsRow (t : Tree) (table : CallTable) (h : ProcessState) (item : ListItem) (row : EverRow) : Type 0 where
  pub kind : IsThing t (Stands (subject_given t item.item.subject)) row.line.thing
  pub calls : (call : Call) → has row.line.calls call ≡ is_ever_allowed t table h (subject_given t item.item.subject) call

-- a row is at the names that lead to an item
pub record IsRowAt (item : ListItem) (row : EverRow) : Type 0 where
  pub depth : row.depth ≡ item.depth
  pub name : option_map (λ name. name.now) row.name ≡ last_name item.item.subject

-- a row is about the name at which an item stands
pub record IsFreedRow (item : ListItem) (own : Option Spot) (row : EverRow) : Type 0 where
  pub at : IsRowAt item row
  pub spot : Spot
  pub is : own ≡ Some spot
  pub thing : row.line.thing ≡ told.Stands kind.Missing
  pub name : own_name row ≡ Some spot.1
  pub about : row.about ≡ ever_about.Freed spot.0

-- the rows so far tell all lines but those of what is to come, at the names that lead to the item before
pub record AreRowsSoFar (t : Tree) (table : CallTable) (h : ProcessState) (items so_far left : List ListItem) (rows : List EverRow) : Type 0 where
  pub word : last_row_word [] rows ≡ last_word [] so_far
  pub told : AreEverTold t [] rows (ever_lines_of t table h (flat_map both_of (items_told t [] items) ++ made_left (Some made.Dir)))
      (ever_lines_of t table h (flat_map both_of (items_told t (last_word [] so_far) left) ++ made_left (Some made.Dir)))

-- rows tell all lines of items and of what can be made, but for some of these
abbrev pub AreRowsBut : Tree → CallTable → ProcessState → List ListItem → List EverRow → Option Made → Type 0
AreRowsBut t table h items rows coming =
    AreEverTold t [] rows (ever_lines_of t table h (flat_map both_of (items_told t [] items) ++ made_left (Some made.Dir)))
    (ever_lines_of t table h (made_left coming))
