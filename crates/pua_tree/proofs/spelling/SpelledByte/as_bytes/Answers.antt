use Rattle.pua_tree.proofs.Common.{rules}
use Rattle.pua_tree.proofs.spelling.SpelledByte.as_bytes.Goals as goal

pub returns : goal.returns
returns c = search rules
