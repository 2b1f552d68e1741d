use Rattle.pua_script.proofs.Tightening.{each_narrows}
use Rattle.pua_script.proofs.futures.steps_law.Goals as goal

pub returns : goal.returns
returns c = each_narrows
