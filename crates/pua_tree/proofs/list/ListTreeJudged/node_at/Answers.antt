use Rattle.pua_tree.proofs.Common.{rules}
use Rattle.pua_tree.proofs.list.ListTreeJudged.node_at.Goals as goal

pub returns-in-Ok : goal.returns-in-Ok
returns-in-Ok c = search rules
