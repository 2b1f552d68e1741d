use Rattle.pua_path.proofs.Common.{rules}
use Rattle.pua_path.proofs.text.PathText.ending.Goals as goal

pub returns : goal.returns
returns c = search rules
