-- What was found is of the tree.
use Rattle.std.specs.Prelude.{◌≡◌, ℕ, Bool, true, false, not, ◌&&◌, ◌==◌, Option, Some, None, Result, Ok, Err, is_none, IsTrue}
use Rattle.std.specs.Option.{option_eq}
use Rattle.pua_tree.specs.Tree.{Tree, Spot, is_dir, look, kind_at}
use Rattle.pua_tree.specs.declared.node.Kind.{Kind}
use Rattle.pua_tree.specs.declared.node.Kind.TheVariants as kind
use Rattle.pua_path.specs.declared.errno.Errno.{Errno}
use Rattle.pua_path.specs.declared.found.Last.{Last}
use Rattle.pua_path.specs.declared.found.Last.TheVariants.{Followed}
use Rattle.pua_path.specs.declared.found.Way.TheVariants as way
use Rattle.pua_path.specs.declared.found.Found.{Found}
use Rattle.pua_path.specs.declared.found.Found.TheVariants.{Whole, Slot}

-- its directory lives, and its row is as the tree has it, with no directory in it
abbrev pub found_fits : Tree → Found → Bool
found_fits t (Whole dir _) = is_dir t dir
found_fits t (Slot dir name None) = is_dir t dir && is_none (look t dir name)
found_fits t (Slot dir name (Some x)) = is_dir t dir && (option_eq ◌==◌ (look t dir name) (Some x) && not (is_dir t x))

abbrev pub FoundFits : Tree → Found → Type 0
FoundFits t object = IsTrue (found_fits t object)

-- the same, where something was found
abbrev pub FoundsFit : Tree → Result Found Errno → Type 0
FoundsFit t (Ok object) = FoundFits t object
FoundsFit t (Err errno) = Unit {0}

-- the spot by whose name something was found, and the node that was found
abbrev pub spot_named : Found → Option Spot
spot_named (Whole dir (way.Named parent name)) = Some (parent, name)
spot_named (Whole dir _) = None
spot_named (Slot dir name _) = Some (dir, name)

abbrev pub node_named : Found → Option ℕ
node_named (Whole dir way) = Some dir
node_named (Slot dir name node) = node

-- the row at a spot has this node, and its directory lives
abbrev pub StandsAtSpot : Tree → Option Spot → Option ℕ → Type 0
StandsAtSpot t None _ = Unit {0}
StandsAtSpot t (Some spot) x = IsTrue (is_dir t spot.0) × (look t spot.0 spot.1 ≡ x)

-- what was found by a name stands at that name
abbrev pub StandsAsNamed : Tree → Found → Type 0
StandsAsNamed t object = StandsAtSpot t (spot_named object) (node_named object)

-- what was found is a link
abbrev pub is_link_kind : Option Kind → Bool
is_link_kind (Some kind.Link) = true
is_link_kind _ = false

abbrev pub is_link : Tree → Found → Bool
is_link t (Slot dir name (Some x)) = is_link_kind (kind_at t x)
is_link t _ = false

-- what was found is of the tree, stands at the name by which it was found, and is no link where the last part is followed
pub record IsOf (t : Tree) (mode : Last) (object : Found) : Type 0 where
  pub fits : FoundFits t object
  pub named : StandsAsNamed t object
  pub followed : mode ≡ Followed → is_link t object ≡ false
