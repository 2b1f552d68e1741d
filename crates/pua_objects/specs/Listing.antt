-- A list that is being made: the directories that are entered, and the items so far.
use Rattle.std.specs.Prelude.{⊤, ◌≡◌, ◌≤◌, ◌<◌, ◌+◌, ℕ, List, [], ◌∷◌, ◌++◌, length, take, drop}
use Rattle.std.specs.List.{AllByRecursion}
use Rattle.pua_tree.specs.Tree.{Tree, Spot, is_within}
use Rattle.pua_policy.specs.States.{ProcessState, root_dir}
use Rattle.pua_audit.specs.Reach.{Word}
use Rattle.pua_objects.specs.Objects.{Others, items}
use Rattle.pua_objects.specs.ListItems.{AreNear, IsToldIn, items_told, last_word}
use Rattle.pua_objects.specs.Spots.{names_at}
use Rattle.pua_objects.specs.Veils.{IsOver, covering_over}
use Rattle.pua_objects.specs.declared.item.Subject as told
use Rattle.pua_objects.specs.declared.over.Over.{Over}
use Rattle.pua_policy.specs.declared.object.Object as seen
use Rattle.pua_objects.specs.Walk.{Frame, IsDeepEnough, items_to_come}
use Rattle.pua_objects.specs.declared.list.ListItem.{ListItem}
use Rattle.pua_objects.specs.declared.list.Entered.{Entered}

-- what covers a directory's further names, and whether it is at or below the root of the process
pub record IsOverDir (t : Tree) (process : ProcessState) (over : Over) (dir : ℕ) : Type 0 where
  pub covers : IsOver process.veils over (covering_over t process (Others dir))
  pub inside : over.inside ≡ is_within t dir (root_dir process)

-- a directory with so many around it has a frame's names to come; its word is the front of the last one
pub record IsEnteredAt (t : Tree) (process : ProcessState) (spots : List Spot) (word : Word) (f : Frame) (inner : Entered) (around : ℕ) :
    Type 0 where
  pub dir : f.dir ≡ inner.dir
  pub front : f.word ≡ take around word
  pub long : length f.word ≡ around
  pub names : f.names ≡ names_at inner.dir (drop inner.next spots)
  pub deep : IsDeepEnough t f
  pub passed : AllByRecursion (λ s. inner.dir ≤ s.0) (drop inner.next spots)
  pub over : IsOverDir t process inner.over inner.dir

-- directories, the innermost first
abbrev pub AreEnteredAt : Tree → ProcessState → List Spot → Word → List Frame → List Entered → Type 0
AreEnteredAt t process spots word [] [] = ⊤
AreEnteredAt t process spots word (f ∷ fs) (inner ∷ around) =
    IsEnteredAt t process spots word f inner (length around) × AreEnteredAt t process spots word fs around
AreEnteredAt t process spots word _ _ = ⊥

-- the items so far, and what the directories have to come, are all items
pub record IsListing (t : Tree) (process : ProcessState) (spots : List Spot) (inside : List Entered) (so_far : List ListItem) : Type 0 where
  pub frames : List Frame
  pub entered : AreEnteredAt t process spots (last_word [] so_far) frames inside
  pub all : items_told t [] so_far ++ items_to_come t process.veils frames ≡ items t process.veils
  pub told : AllByRecursion (IsToldIn t process) so_far
  pub near : AreNear [] so_far

-- an item of which what covers it is told
abbrev pub item_of : ℕ → told.Subject → seen.Object → Over → ListItem
item_of depth subject object over =
    record {
      depth = depth;
      item = record { subject = subject; object = object; cover = over.cover };
      veil = over.veil;
      inside = over.inside;
    }

-- a directory of which a name was taken
abbrev pub after_next : Entered → Entered
after_next inner = record { dir = inner.dir; next = inner.next + 1; over = inner.over }

-- a directory that has this name to come first
pub record IsListingBefore (t : Tree) (process : ProcessState) (spots : List Spot) (inner : Entered) (around : List Entered) (name : List ℕ)
    (so_far : List ListItem) : Type 0 where
  pub within : inner.next < length spots
  pub names : names_at inner.dir (drop inner.next spots) ≡ name ∷ names_at inner.dir (drop (inner.next + 1) spots)
  pub listing : IsListing t process spots (inner ∷ around) so_far
