use Rattle.pua_advice.proofs.Scripts.{unknown_are_none}
use Rattle.pua_advice.proofs.laws.calls_law.Goals as goal

pub returns : goal.returns
returns c = unknown_are_none
