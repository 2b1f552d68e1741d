-- The numbers of nodes as the code keeps them, and what a line makes.
use Rattle.std.specs.Prelude.{ℕ, ◌==◌, Option, unwrap_or, option_map, option_copied}
use Rattle.indexmap.specs.IndexMap.{get}
use Rattle.pua_tree.specs.Tree.{Node}
use Rattle.pua_tree.specs.declared.node.Kind.{Kind}
use Rattle.pua_listing.specs.declared.line.MadeNode.{MadeNode}
use Rattle.pua_listing.specs.declared.numbers.Numbers.{Numbers}

abbrev pub number_in : Numbers → ℕ → ℕ
number_in numbers x = unwrap_or (get ◌==◌ numbers.lines x) 0

abbrev pub node_made : MadeNode → Node
node_made made = record { kind = made.kind; target = option_copied made.target; mount = made.mount }

abbrev pub kind_made : Option MadeNode → Option Kind
kind_made made = option_map (λ m. m.kind) made
