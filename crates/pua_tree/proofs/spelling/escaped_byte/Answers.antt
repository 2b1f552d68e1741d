use Rattle.pua_tree.proofs.Common.{rules}
use Rattle.pua_tree.proofs.spelling.escaped_byte.Goals as goal

pub returns-then-is_plain-clause-byte : goal.returns-then-is_plain-clause-byte
returns-then-is_plain-clause-byte c = search rules
