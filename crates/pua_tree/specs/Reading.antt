-- What a reader of a listing's lines has gathered so far, and what a further entry makes of it.
use Rattle.std.specs.Prelude.{◌≡◌, ◌≤◌, ◌<◌, ◌+◌, ◌==◌, ◌&&◌, ℕ, Bool, not, nat_le, nat_lt, List, [], Option, Some, None, is_none, Ok}
use Rattle.std.specs.Prelude.{IsTrue, option_map}
use Rattle.pua_tree.specs.Limits.{number_end}
use Rattle.pua_tree.specs.Names.{is_name}
use Rattle.pua_tree.specs.Tree as tree
use Rattle.pua_tree.specs.Tree.{Tree, target_fits, mount_fits, is_dir, is_living, look}
use Rattle.pua_tree.specs.Edits.{add, tie, with_new, with_row, has_name_room}
use Rattle.pua_tree.specs.Listing as listing
use Rattle.pua_tree.specs.Listing.{last_number, tree_of}
use Rattle.pua_tree.specs.Grammar.{entries_fit}
use Rattle.pua_tree.specs.declared.form.Form.{Form}
use Rattle.pua_tree.specs.declared.gathered.LineEntry.{LineEntry}
use Rattle.pua_tree.specs.declared.gathered.LineNode.{LineNode}
use Rattle.pua_tree.specs.declared.gathered.MadeNode.{MadeNode}

-- a node that a line makes
abbrev pub said_node : MadeNode → tree.Node
said_node made = record { kind = made.kind; target = option_map (λ target. target.items) made.target; mount = made.mount }

-- the entry of a line whose row stands in this directory under this name
abbrev pub entry_at : ℕ → List ℕ → LineNode → listing.Entry
entry_at dir name stands = record {
  number = stands.number;
  parent = dir;
  name = name;
  node = stands.node;
  made = option_map said_node stands.made;
}

-- what a line says
abbrev pub entry_said : LineEntry → listing.Entry
entry_said e = entry_at e.parent e.name.bytes.now e.stands

-- the tree with an entry more: the node that it makes, under its number, in a new row; or, where it makes none, a new row
-- of its node, and a next number above its own
abbrev pub grown_by : Tree → listing.Entry → Option tree.Node → Tree
grown_by t e None = with_row (record t { next = e.number + 1 }) e.parent e.name e.node
grown_by t e (Some made) = with_new (record t { next = e.number }) e.parent e.name made

abbrev pub tree_with : Tree → listing.Entry → Tree
tree_with t e = grown_by t e e.made

-- the edit by which an entry comes to the tree finds no fault
abbrev pub Enters : Tree → listing.Entry → Option tree.Node → Type 0
Enters t e None = tie (record t { next = e.number + 1 }) e.parent e.name e.node ≡ Ok (grown_by t e None)
Enters t e (Some made) = (e.node ≡ e.number) × IsTrue (target_fits made.kind made.target)
    × IsTrue (mount_fits made) × (add (record t { next = e.number }) e.parent e.name made ≡ Ok (e.number, grown_by t e (Some made)))

-- an entry that a tree may take: its number is no lower than the next one, and its node may be added under that number,
-- or be given a further name
pub record Follows (t : Tree) (e : listing.Entry) : Type 0 where
  pub number : t.next ≤ e.number
  pub not_last : e.number < number_end
  pub named : IsTrue (is_name e.name)
  pub enters : Enters t e e.made

-- the node of an entry may stand in a further row: what is made has the entry's number, and another lives and is no directory
abbrev pub node_follows : Tree → ℕ → ℕ → Option tree.Node → Bool
node_follows t number x None = is_living t x && not (is_dir t x)
node_follows t number x (Some made) = x == number

-- a row may come to a spot, whose directory lives, under this number
abbrev pub row_follows : Tree → ℕ → ℕ → List ℕ → Bool
row_follows t number dir name =
    nat_le t.next number && (nat_lt number number_end && (is_none (look t dir name) && has_name_room t))

-- the same as a test, for an entry whose name is one, and of which what it makes is made well
abbrev pub follows : Tree → listing.Entry → Bool
follows t e =
    is_dir t e.parent && (node_follows t e.number e.node e.made && row_follows t e.number e.parent e.name)

-- the tree of entries each of which fits those before it, and the greatest of their numbers
pub record Gathers (form : Form) (t : Tree) (greatest : ℕ) (es : List listing.Entry) : Type 0 where
  pub fit : IsTrue (entries_fit form [] es)
  pub tree : t ≡ tree_of form es
  pub highest : greatest ≡ last_number es
