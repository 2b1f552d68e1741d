-- What is worked out of a crew and a tree, piece by piece.
use Rattle.std.specs.Prelude.{◌≡◌, ◌<◌, ◌+◌, ◌*◌, ◌^◌, slice_get, ◌==◌, ℕ, suc, Bool, false, List, Option, Some, None, get_or, nat_lt, ⊤, if◌then◌else◌, IsTrue, length, map}
use Rattle.std.specs.Borrow.{Bor}
use Rattle.std.specs.List.{Contains, list_any}
use Rattle.std.specs.List.Sorted.{IsNonDecreasingBy}
use Rattle.std.specs.Ordering.{ordering_index}
use Rattle.pua_tree.specs.Tree.{Tree, Spot, device, is_dir, kind_at, look, spot_cmp}
use Rattle.pua_tree.specs.declared.tree.LentRow.{LentRow}
use Rattle.pua_policy.specs.declared.place.Place.{Place}
use Rattle.pua_policy.specs.declared.place.Place.TheVariants as place
use Rattle.pua_jointly.specs.JointFacts.{watches_by}
use Rattle.pua_jointly.specs.JointMembers.{Each}
use Rattle.pua_jointly.specs.JointPlace.{Once}
use Rattle.pua_objects.specs.declared.item.Subject.{Subject}
use Rattle.pua_objects.specs.declared.item.Subject.TheVariants as about
use Rattle.pua_ever.specs.Laws.{dir_of_place}
use Rattle.pua_jointly.specs.declared.crew.Entry.{Entry}
use Rattle.pua_jointly.specs.declared.crew.Mark.{Mark}
use Rattle.pua_jointly.specs.declared.crew.Watch.{Watch}
use Rattle.pua_jointly.specs.declared.size.Size.{Size}
use Rattle.pua_jointly.specs.declared.shape.Shape.{Shape}

-- the greatest number of a row, and of a veil's directory
abbrev pub greater : ℕ → ℕ → ℕ
greater a b = if nat_lt a b then b else a

abbrev pub row_number : LentRow → ℕ
row_number row = greater row.dir row.node

abbrev pub veil_number : Bor Place × Bor ℕ → ℕ
veil_number veil = dir_of_place veil.0.now

-- how much a table is of
pub record IsShape (agents devices last : ℕ) (shape : Shape) : Type 0 where
  pub agents_are : shape.agents ≡ agents
  pub hands_are : shape.hands ≡ agents * devices
  pub last_is : shape.last ≡ last

-- how many words a row has, and rows that can all be numbered
pub record IsSize (shape : Shape) (names watched : ℕ) (size : Size) : Type 0 where
  pub same : size.shape ≡ shape
  pub columns : size.columns ≡ shape.agents + suc watched
  pub rows : size.names + names < 2 ^ 64

-- the devices of directories, by their numbers
pub record AreDevices (t : Tree) (count : ℕ) (devices : List ℕ) : Type 0 where
  pub each : (n : ℕ) → n < count → slice_get devices n ≡ Some (device t n)
  pub full : length devices ≡ count

-- a name at which something stands
abbrev pub entry_of : Entry → Spot
entry_of entry = (entry.dir, entry.name.now)

pub record IsEntryAt (t : Tree) (first i : ℕ) (entry : Entry) : Type 0 where
  pub row : entry.row ≡ first + i
  pub at : look t entry.dir entry.name.now ≡ Some entry.node
  pub kind : kind_at t entry.node ≡ Some entry.kind

-- what is asked of a row of the tree
pub record IsEntryOfRow (t : Tree) (at : LentRow) (number : ℕ) (entry : Entry) : Type 0 where
  pub row : entry.row ≡ number
  pub spot : entry_of entry ≡ (at.dir, at.name.now)
  pub node : entry.node ≡ at.node
  pub kind : kind_at t at.node ≡ Some entry.kind

-- names in order, by directory and then by bytes: each name has its place among them
abbrev pub AreInOrder : List Entry → Type 0
AreInOrder entries = (spot : Spot) → IsNonDecreasingBy (λ entry. ordering_index (spot_cmp (entry_of entry) spot)) entries

-- what stands at a name
abbrev pub IsEntryIn : List Entry → Spot → Option (Bor Entry) → Type 0
IsEntryIn entries spot None = (entry : Entry) → Contains entries entry → entry_of entry ≡ spot → ⊥
IsEntryIn entries spot (Some entry) = Contains entries entry.now × (entry_of entry.now ≡ spot)

-- and at the name that an item is about, if it is about one
abbrev pub IsEntryOf : List Entry → Subject → Option (Bor Entry) → Type 0
IsEntryOf entries (about.Name dir name) entry = IsEntryIn entries (dir, name.now) entry
IsEntryOf entries _ entry = ⊤

-- a name at which a veil is, in a directory that stands
abbrev pub mark_spot : Tree → Place → Option Spot
mark_spot t (place.Slot dir name) = if is_dir t dir then Some (dir, name) else None
mark_spot t (place.Dir dir) = None

-- the row of what stands there, if anything does
abbrev pub IsRowIn : List Entry → Spot → Option ℕ → Type 0
IsRowIn entries spot None = (entry : Entry) → Contains entries entry → entry_of entry ≡ spot → ⊥
IsRowIn entries spot (Some row) = (entry : Entry) × Contains entries entry × (entry_of entry ≡ spot) × (entry.row ≡ row)

pub record IsMarkOf (t : Tree) (entries : List Entry) (at : Place) (mark : Mark) : Type 0 where
  pub spot : mark_spot t at ≡ Some (mark.dir, mark.name.now)
  pub row : IsRowIn entries (mark.dir, mark.name.now) mark.row

pub record AreMarksOf (t : Tree) (entries : List Entry) (veils : List (Place × ℕ)) (marks : List Mark) : Type 0 where
  pub each : (veil : Place × ℕ) (spot : Spot) → Contains veils veil → mark_spot t veil.0 ≡ Some spot →
      (mark : Mark) × Contains marks mark × ((mark.dir, mark.name.now) ≡ spot)
  pub only : (mark : Mark) → Contains marks mark → (veil : Place × ℕ) × Contains veils veil × IsMarkOf t entries veil.0 mark

-- a veil is on a directory
abbrev pub is_on : ℕ → Place → Bool
is_on dir (place.Dir other) = other == dir
is_on dir (place.Slot other name) = false

-- the watched directories
abbrev pub is_watched : Tree → List (Place × ℕ) → ℕ → Bool
is_watched t veils dir = list_any (watches_by t dir) veils

pub record AreWatched (t : Tree) (many dirs : ℕ) (veils : List (Place × ℕ)) (watches : List Watch) : Type 0 where
  pub each : Each (λ i watch. (watch.dir < dirs) × (watch.column ≡ many + suc i) × IsTrue (is_watched t veils watch.dir)) watches
  pub all : (dir : ℕ) → dir < dirs → IsTrue (is_watched t veils dir) → (watch : Watch) × Contains watches watch × (watch.dir ≡ dir)
  pub once : Once (map (λ watch. watch.dir) watches)

-- and their columns, by the numbers of directories
pub record AreColumns (watches : List Watch) (columns : List (Option ℕ)) : Type 0 where
  pub each : (dir column : ℕ) → get_or columns dir None ≡ Some column →
      (watch : Watch) × Contains watches watch × (watch.dir ≡ dir) × (watch.column ≡ column)
  pub all : (watch : Watch) → Contains watches watch → get_or columns watch.dir None ≡ Some watch.column
