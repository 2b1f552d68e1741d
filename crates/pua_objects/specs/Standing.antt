-- What a walk looks things up in, as far as it is of a tree and of a process.
use Rattle.std.specs.Prelude.{◌≡◌, ◌==◌, ℕ, false, List, map, Option, Some, None}
use Rattle.std.specs.List.{list_any}
use Rattle.pua_tree.specs.LentRows.{lent_entry}
use Rattle.pua_tree.specs.Tree.{Tree, kind_at, look}
use Rattle.pua_tree.specs.declared.node.Kind.{Kind}
use Rattle.pua_policy.specs.States.{ProcessState, veil_at}
use Rattle.pua_policy.specs.declared.place.Place.{Place}
use Rattle.pua_policy.specs.declared.place.Place.TheVariants as place
use Rattle.pua_objects.specs.declared.standing.Standing.{Standing}

-- a veil is kept at a name only in these directories
abbrev pub AreVeiledIn : List (Place × ℕ) → List ℕ → Type 0
AreVeiledIn vs dirs = (dir : ℕ) (name : List ℕ) → list_any (λ other. other == dir) dirs ≡ false → veil_at vs (place.Slot dir name) ≡ None

-- all rows of a tree, each with the kind of what stands in it, and the directories with veiled names
pub record IsStanding (t : Tree) (process : ProcessState) (standing : Standing) : Type 0 where
  pub rows : map lent_entry standing.rows.items ≡ t.rows
  pub kinds : standing.kinds.items ≡ map (λ row. kind_at t row.node) standing.rows.items
  pub veiled : AreVeiledIn process.veils standing.veiled.items

-- the directory in which a place is a name
abbrev pub slot_dir : Place → Option ℕ
slot_dir (place.Slot dir name) = Some dir
slot_dir (place.Dir dir) = None

-- a node, with its kind, that has a name in a directory, or that none has it
abbrev pub IsFound : Tree → ℕ → List ℕ → Option (ℕ × Option Kind) → Type 0
IsFound t dir name (Some found) = (look t dir name ≡ Some found.0) × (kind_at t found.0 ≡ found.1)
IsFound t dir name None = look t dir name ≡ None
