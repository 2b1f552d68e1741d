-- The tree that a list of rows and a list of nodes hold, both in the order of their keys.
use Rattle.std.specs.Prelude.{ℕ, List, map, option_map}
use Rattle.pua_tree.specs.Tree as tree
use Rattle.pua_tree.specs.declared.numbering.Numbering.{Numbering}
use Rattle.pua_tree.specs.declared.list.ListRow.{ListRow}
use Rattle.pua_tree.specs.declared.list.ListNode.{ListNode}

abbrev pub row_entry : ListRow → tree.Spot × ℕ
row_entry row = ((row.dir, row.name), row.node)

abbrev pub made_of_list_node : ListNode → tree.Node
made_of_list_node node = record { kind = node.kind; target = option_map (λ target. target.items) node.target; mount = node.mount }

abbrev pub node_entry : ListNode → ℕ × tree.Node
node_entry node = (node.id, made_of_list_node node)

abbrev pub held_tree : List ListRow → List ListNode → Numbering → tree.Tree
held_tree rows nodes numbering = record {
  rows = map row_entry rows;
  nodes = map node_entry nodes;
  next = numbering.next;
  room = numbering.room;
}
