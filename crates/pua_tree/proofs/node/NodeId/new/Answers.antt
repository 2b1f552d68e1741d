use Rattle.pua_tree.proofs.Common.{rules}
use Rattle.pua_tree.proofs.node.NodeId.new.Goals as goal

pub returns : goal.returns
returns c = search rules
