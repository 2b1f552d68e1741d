use Rattle.pua_tree.proofs.Common.{rules}
use Rattle.pua_tree.proofs.link_target.is_target.Goals as goal

pub returns-then-is_empty : goal.returns-then-is_empty
returns-then-is_empty c = search rules
