use Rattle.pua_path.proofs.Composition.{composes}
use Rattle.pua_path.proofs.laws.resolution_law.Goals as goal

pub returns : goal.returns
returns c = composes
