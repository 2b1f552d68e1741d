-- The items of a list as a vector: each says how many names of the item before lead to it.
use Rattle.std.specs.Prelude.{◌≡◌, ◌≤◌, ⊤, ℕ, List, [], ◌∷◌, ◌++◌, length, take, Option, Some, None}
use Rattle.pua_tree.specs.Tree.{Tree, is_within}
use Rattle.pua_policy.specs.States.{ProcessState, root_dir}
use Rattle.pua_audit.specs.Reach.{Word}
use Rattle.pua_objects.specs.Objects.{Item}
use Rattle.pua_objects.specs.Items.{IsItemOn, SubjectFits, subject_given}
use Rattle.pua_objects.specs.Roots.{dir_of}
use Rattle.pua_objects.specs.Veils.{covering_by, covering_over}
use Rattle.pua_objects.specs.declared.item.Subject as told
use Rattle.pua_objects.specs.declared.item.Subject.TheVariants as about
use Rattle.pua_objects.specs.declared.list.ListItem.{ListItem}

-- the name at which it stands; none for the root, and for further names
abbrev pub last_name : told.Subject → Option (List ℕ)
last_name about.Root = None
last_name (about.Dir id dir name) = Some name.now
last_name (about.Others dir) = None
last_name (about.Name dir name) = Some name.now

abbrev pub with_name : Word → Option (List ℕ) → Word
with_name word None = word
with_name word (Some name) = word ++ name ∷ []

-- the names that lead to an item, by those that lead to the item before
abbrev pub word_after : Word → ListItem → Word
word_after before item = with_name (take item.depth before) (last_name item.item.subject)

-- those that lead to the last of some items
abbrev pub last_word : Word → List ListItem → Word
last_word before [] = before
last_word before (item ∷ items) = last_word (word_after before item) items

-- no item shares more names with the one before than lead there
abbrev pub AreNear : Word → List ListItem → Type 0
AreNear before [] = ⊤
AreNear before (item ∷ items) = (item.depth ≤ length before) × AreNear (word_after before item) items

-- what items are about, and the names that lead there, by those that lead to the item before them
abbrev pub items_told : Tree → Word → List ListItem → List Item
items_told t before [] = []
items_told t before (item ∷ items) =
    record { word = word_after before item; subject = subject_given t item.item.subject }
    ∷ items_told t (word_after before item) items

-- an item is about something in the tree, and tells what a call is on there, what covers it, by which veil, and whether it is at or below
-- the root of the process
pub record IsToldIn (t : Tree) (process : ProcessState) (item : ListItem) : Type 0 where
  pub fits : SubjectFits t (subject_given t item.item.subject)
  pub tells : IsItemOn t process (subject_given t item.item.subject) item.item
  pub veil : covering_by process.veils item.veil ≡ covering_over t process (subject_given t item.item.subject)
  pub inside : item.inside ≡ is_within t (dir_of (subject_given t item.item.subject)) (root_dir process)
