use Rattle.pua_path.proofs.Common.{rules}
use Rattle.pua_path.proofs.text.PathText.bytes.Goals as goal

pub returns-clause-bytes : goal.returns-clause-bytes
returns-clause-bytes c = search rules
