use Rattle.pua_path.proofs.Fitting.{resolutions_fit}
use Rattle.pua_path.proofs.laws.fitting_law.Goals as goal

pub returns : goal.returns
returns c = resolutions_fit
