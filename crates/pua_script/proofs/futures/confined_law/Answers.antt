use Rattle.pua_script.proofs.Confined.{families_confine}
use Rattle.pua_script.proofs.Confining.{each_spares}
use Rattle.pua_script.proofs.Unchanged.{promises_change}
use Rattle.pua_script.proofs.futures.confined_law.Goals as goal

pub returns : goal.returns
returns c = record { requests = each_spares; lists = families_confine; promises = promises_change }
