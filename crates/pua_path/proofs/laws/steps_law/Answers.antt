use Rattle.pua_path.proofs.StepsLaw.{steps_compose}
use Rattle.pua_path.proofs.laws.steps_law.Goals as goal

pub returns : goal.returns
returns c = steps_compose
