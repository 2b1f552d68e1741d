use Rattle.pua_script.proofs.Families.{families_narrow}
use Rattle.pua_script.proofs.futures.families_law.Goals as goal

pub returns : goal.returns
returns c = families_narrow
