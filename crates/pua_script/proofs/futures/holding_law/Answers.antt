use Rattle.pua_script.proofs.Holding.{families_hold}
use Rattle.pua_script.proofs.futures.holding_law.Goals as goal

pub returns : goal.returns
returns c = families_hold
