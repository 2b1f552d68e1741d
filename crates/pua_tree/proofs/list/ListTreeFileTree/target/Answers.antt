use Rattle.pua_tree.proofs.Common.{rules}
use Rattle.pua_tree.proofs.list.ListTreeFileTree.target.Goals as goal

pub returns-in-Some : goal.returns-in-Some
returns-in-Some c = search rules
