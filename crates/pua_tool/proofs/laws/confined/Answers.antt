use Rattle.pua_script.proofs.ForCallers.{rules_narrow}
use Rattle.pua_tool.proofs.Futures.{confinement, confinement_as_read}
use Rattle.pua_tool.proofs.laws.confined.Goals as goal

pub returns : goal.returns
returns c = record { rows = confinement; read = confinement_as_read; rules = rules_narrow }
