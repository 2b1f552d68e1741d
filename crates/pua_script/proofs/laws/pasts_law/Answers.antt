use Rattle.pua_script.proofs.Pasts.{keeps_pasts}
use Rattle.pua_script.proofs.laws.pasts_law.Goals as goal

pub returns : goal.returns
returns c = keeps_pasts
