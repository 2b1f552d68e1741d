use Rattle.pua_tree.proofs.Common.{rules}
use Rattle.pua_tree.proofs.name.Name.bytes.Goals as goal

pub returns-clause-bytes : goal.returns-clause-bytes
returns-clause-bytes c = search rules
