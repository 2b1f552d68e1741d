use Rattle.pua_tree.proofs.Common.{rules}
use Rattle.pua_tree.proofs.spelling.byte_spelling.Goals as goal

pub returns-else-is_plain : goal.returns-else-is_plain
returns-else-is_plain c = search rules
