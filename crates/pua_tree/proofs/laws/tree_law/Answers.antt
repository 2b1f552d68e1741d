use Rattle.pua_tree.proofs.Content.{trees_are_their_rows}
use Rattle.pua_tree.proofs.laws.tree_law.Goals as goal

pub returns : goal.returns
returns c = trees_are_their_rows
