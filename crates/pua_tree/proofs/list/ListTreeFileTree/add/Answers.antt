use Rattle.pua_tree.proofs.Common.{rules}
use Rattle.pua_tree.proofs.list.ListTreeFileTree.add.Goals as goal

pub returns-clause-exact : goal.returns-clause-exact
returns-clause-exact c = search rules
