use Rattle.pua_tree.proofs.Common.{arith}
use Rattle.pua_tree.proofs.Rows.{entry_names}
use Rattle.pua_tree.proofs.list.ListTreeFileTree.names.Goals as goal

pub returns-clause-names : goal.returns-clause-names
returns-clause-names c = grind (arith, entry_names)
