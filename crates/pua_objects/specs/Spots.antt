-- The names under which something stands or is veiled, each with its directory, in order.
use Rattle.std.specs.Prelude.{◌≡◌, ℕ, List, Option, Some, None, map, filter, ◌==◌, IsTrue}
use Rattle.std.specs.Borrow.{Bor}
use Rattle.std.specs.List.{AllByRecursion, Contains}
use Rattle.pua_tree.specs.LentRows.{lent_entry}
use Rattle.pua_tree.specs.declared.tree.LentRow.{LentRow}
use Rattle.pua_tree.specs.Tree.{Tree, Spot, spot_cmp}
use Rattle.pua_policy.specs.declared.place.Place.{Place}
use Rattle.pua_policy.specs.declared.place.Place.TheVariants as place
use Rattle.pua_audit.specs.Laws.{Rises}
use Rattle.pua_objects.specs.Laws.{is_place}
use Rattle.pua_objects.specs.Objects.{entries}

-- a spot that is lent
abbrev pub spot_now : ℕ × Bor (List ℕ) → Spot
spot_now spot = (spot.0, spot.1.now)

-- the spot of a row that is lent
abbrev pub row_spot : LentRow → Spot
row_spot row = (lent_entry row).0

-- the spot of a veil at a name
abbrev pub veil_spot : Place → Option Spot
veil_spot (place.Slot dir name) = Some (dir, name)
veil_spot (place.Dir dir) = None

-- places that are no directories are at names
abbrev pub AreAtNames : List Place → Type 0
AreAtNames places = AllByRecursion (λ place. IsTrue (is_place place)) places

-- the names at the spots of a directory
abbrev pub names_at : ℕ → List Spot → List (List ℕ)
names_at dir spots = map (λ spot. spot.1) (filter (λ spot. spot.0 == dir) spots)

-- these spots and no other, each once, in order
pub record AreInOrder (given spots : List Spot) : Type 0 where
  pub rise : Rises spot_cmp spots
  pub all : (s : Spot) → Contains given s → Contains spots s
  pub no_other : (s : Spot) → Contains spots s → Contains given s

-- spots in order, those of each directory with its entries
pub record AreSpots (t : Tree) (vs : List (Place × ℕ)) (spots : List Spot) : Type 0 where
  pub rise : Rises spot_cmp spots
  pub entries : (dir : ℕ) → names_at dir spots ≡ entries t vs dir
