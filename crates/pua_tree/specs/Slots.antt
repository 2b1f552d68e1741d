-- What rows and numbers in maps, and nodes in slots, hold of a tree.
use Rattle.std.specs.Prelude.{ℕ, ◌≡◌, ◌≢◌, ◌==◌, ◌<◌, ◌+◌, ◌-◌, not, if◌then◌else◌, List, [], ◌∷◌, map, count_by, Option, Some, None}
use Rattle.std.specs.Prelude.{IsSome, option_map, option_and_then}
use Rattle.std.specs.declared.cmp.Ordering.{Ordering}
use Rattle.std.specs.Ordering.{nat_cmp, is_eq}
use Rattle.std.specs.FinMap.{find as find_key, put}
use Rattle.std.specs.FinMap.Entries.{where_key}
use Rattle.indexmap.specs.IndexMap.{get, index_map_len, spare}
use Rattle.pua_tree.specs.NamedRows.{row_of, spot_at}
use Rattle.slab.specs.Slab.{get as slot_get, slab_len, HasRoomFor, IsSlabClone}
use Rattle.pua_tree.specs.Tree as tree
use Rattle.pua_tree.specs.Tree.{spot_cmp}
use Rattle.pua_tree.specs.declared.node.Kind.TheVariants.{Dir}
use Rattle.pua_tree.specs.declared.numbering.Numbering.{Numbering}
use Rattle.pua_tree.specs.declared.spot.RowKey.{RowKey}
use Rattle.pua_tree.specs.declared.slots.Slots.{Slots}
use Rattle.pua_tree.specs.declared.slots.SlotNode.{SlotNode}
use Rattle.pua_tree.specs.declared.spot.RowNode.{RowNode}
use Rattle.pua_tree.specs.declared.slots.Stance.{Stance}
use Rattle.pua_tree.specs.contracts.node.NodeIdPartialEq.TheImpl.{ghosts as number_ghosts}

abbrev pub made_of : SlotNode → tree.Node
made_of node = record { kind = node.kind; target = option_map (λ target. target.items) node.target; mount = node.mount }

-- what stands in the row at a spot, and the node there
abbrev pub row_in : Slots → tree.Spot → Option RowNode
row_in s at = row_of s.rows at

abbrev pub row_at : Slots → tree.Spot → Option ℕ
row_at s at = option_map (λ row. row.node) (row_in s at)

-- the slot of a number
abbrev pub slot_of : Slots → ℕ → Option ℕ
slot_of s x = get number_ghosts.eq s.numbers x

-- the node of a number
abbrev pub node_in : Slots → ℕ → Option SlotNode
node_in s x = option_and_then (slot_get s.nodes) (slot_of s x)

-- entries in the order of their keys: of entries of one key the first counts, and one without a value stands for none
abbrev pub with_entry : {K X : Type 0} → (K → K → Ordering) → K → Option X → List (K × X) → List (K × X)
with_entry cmp k None es = where_key cmp (λ other. not (is_eq (cmp k other))) es
with_entry cmp k (Some value) es = put cmp k value es

abbrev pub in_order : {K X : Type 0} → (K → K → Ordering) → List (K × Option X) → List (K × X)
in_order cmp [] = []
in_order cmp (e ∷ es) = with_entry cmp e.0 e.1 (in_order cmp es)

-- the rows and the nodes that are held, as the tree has them
abbrev pub held_rows : Slots → List (tree.Spot × ℕ)
held_rows s = in_order spot_cmp (map {B = tree.Spot × Option ℕ} (λ e. ((e.0.dir, e.0.name), Some e.1.node)) s.rows.entries)

abbrev pub held_nodes : Slots → List (ℕ × tree.Node)
held_nodes s = in_order nat_cmp (map {B = ℕ × Option tree.Node} (λ e. (e.0, option_map made_of (slot_get s.nodes e.1))) s.numbers.entries)

abbrev pub held_in_slots : Slots → Numbering → tree.Tree
held_in_slots s numbering = record {
  rows = held_rows s;
  nodes = held_nodes s;
  next = numbering.next;
  room = numbering.room;
}

-- how many rows a directory has
abbrev pub rows_in : List (tree.Spot × ℕ) → ℕ → ℕ
rows_in rows dir = count_by (λ row. row.0.0 == dir) rows

-- how many names a node has
abbrev pub names_of : List (tree.Spot × ℕ) → ℕ → ℕ
names_of rows x = count_by (λ row. row.1 == x) rows

-- each number has a slot of its own, in which a node is, and no other slot has one
pub record IsFiled (s : Slots) : Type 0 where
  pub filled : (x slot : ℕ) → slot_of s x ≡ Some slot → IsSome (slot_get s.nodes slot)
  pub apart : (x y slot : ℕ) → slot_of s x ≡ Some slot → slot_of s y ≡ Some slot → x ≡ y
  pub no_other : slab_len s.nodes ≡ index_map_len s.numbers

-- each node knows how it stands in the rows, and a directory in which
pub record StandsIn (rows : List (tree.Spot × ℕ)) (s : Slots) : Type 0 where
  pub rows_counted : (x : ℕ) (node : SlotNode) → node_in s x ≡ Some node → node.standing.rows ≡ rows_in rows x
  pub names_counted : (x : ℕ) (node : SlotNode) → node_in s x ≡ Some node → node.standing.names ≡ names_of rows x
  pub dir_spot : (at : tree.Spot) (x : ℕ) (node : SlotNode) → find_key spot_cmp at rows ≡ Some x → node_in s x ≡ Some node →
      node.kind ≡ Dir → spot_at s.rows.names node.standing.key ≡ Some at

-- each row says what its node is
abbrev pub RowsSayKinds : Slots → Type 0
RowsSayKinds s = (at : tree.Spot) (row : RowNode) (node : SlotNode) → row_in s at ≡ Some row → node_in s row.node ≡ Some node →
    node.kind ≡ row.kind

-- what is true of rows and nodes in slots after each of their changes
pub record AreConsistent (s : Slots) : Type 0 where
  pub filed : IsFiled s
  pub standing : StandsIn (held_rows s) s
  pub kinds : RowsSayKinds s

-- a node that stands otherwise
abbrev pub with_stance : Stance → SlotNode → SlotNode
with_stance standing node = record node { standing = standing }

-- how a directory stands, and None for a node of another kind
abbrev pub standing_of_dir : SlotNode → Option Stance
standing_of_dir node = if tree.is_dir_kind (Some node.kind) then Some node.standing else None

-- standings have changed so, and nothing else of nodes
pub record Restands (old new : Slots) (change : ℕ → Stance → Stance) : Type 0 where
  pub filed : IsFiled new
  pub nodes : (x : ℕ) → node_in new x ≡ option_map (λ node. with_stance (change x node.standing) node) (node_in old x)

abbrev pub one_at : ℕ → ℕ → ℕ
one_at x y = if x == y then 1 else 0

-- one row more, or fewer, in a directory
abbrev pub row_gained : ℕ → ℕ → Stance → Stance
row_gained dir x standing = record standing { rows = standing.rows + one_at dir x }

abbrev pub row_lost : ℕ → ℕ → Stance → Stance
row_lost dir x standing = record standing { rows = standing.rows - one_at dir x }

-- one name more of a node, in the row of a key, or one name fewer
abbrev pub name_gained : RowKey → ℕ → ℕ → Stance → Stance
name_gained key node x standing =
    record standing { names = standing.names + one_at node x; key = if node == x then key else standing.key }

abbrev pub name_lost : ℕ → ℕ → Stance → Stance
name_lost node x standing = record standing { names = standing.names - one_at node x }

-- a node that may come to stand in a further row: not the root, and a directory only where it stands in none
pub record MayStand (s : Slots) (x : ℕ) : Type 0 where
  pub not_root : x ≢ 0
  pub dir_once : (node : SlotNode) → node_in s x ≡ Some node → node.kind ≡ Dir → names_of (held_rows s) x ≡ 0

-- a row may come to a spot: nothing stands there, and its node may stand in a further row
pub record MayEnter (s : Slots) (at : tree.Spot) (x : ℕ) : Type 0 where
  pub kept : AreConsistent s
  pub free : row_at s at ≡ None
  pub may : MayStand s x

-- a node stands in the row at a spot
pub record HasRow (s : Slots) (at : tree.Spot) (x : ℕ) : Type 0 where
  pub kept : AreConsistent s
  pub there : row_at s at ≡ Some x

-- a node's row may move to a spot: nothing stands there, the node is not the root, and a directory has no other name
pub record MayMove (s : Slots) (at to : tree.Spot) (x : ℕ) : Type 0 where
  pub has : HasRow s at x
  pub free : row_at s to ≡ None
  pub not_root : x ≢ 0
  pub dir_once : (node : SlotNode) → node_in s x ≡ Some node → node.kind ≡ Dir → names_of (held_rows s) x ≡ 1

-- a further node has room without further memory
abbrev pub HasNodeRoom : Slots → Type 0
HasNodeRoom s = HasRoomFor s.nodes 1 × (0 < spare s.numbers)

-- a number that no node has, and no row names
pub record IsNew (s : Slots) (x : ℕ) : Type 0 where
  pub no_slot : slot_of s x ≡ None
  pub no_rows : rows_in (held_rows s) x ≡ 0
  pub no_names : names_of (held_rows s) x ≡ 0

-- nodes with one more, if one is made
abbrev pub with_made : ℕ → Option tree.Node → List (ℕ × tree.Node) → List (ℕ × tree.Node)
with_made x None nodes = nodes
with_made x (Some made) nodes = put nat_cmp x made nodes

-- a copy of a node: the same kind and target, and it stands alike
pub record IsNodeCopy (node copy : SlotNode) : Type 0 where
  pub made : made_of copy ≡ made_of node
  pub standing : copy.standing ≡ node.standing

-- a copy of rows and nodes: the same entries, and a copy of each node in its slot
pub record AreCopied (s copy : Slots) : Type 0 where
  pub rows : copy.rows.entries ≡ s.rows.entries
  pub names : copy.rows.names ≡ s.rows.names
  pub numbers : copy.numbers.entries ≡ s.numbers.entries
  pub nodes : IsSlabClone IsNodeCopy s.nodes copy.nodes
