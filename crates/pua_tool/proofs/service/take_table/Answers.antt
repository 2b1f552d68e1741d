use Rattle.pua_io.proofs.ForCallers.{asks_for_nothing}
use Rattle.pua_tool.proofs.service.take_table.Goals as goal

pub returns-in-None-clause-asks : goal.returns-in-None-clause-asks
returns-in-None-clause-asks g c = rw c.in-None.is (asks_for_nothing (g.I.Inputs.asked c.args.inputs.now))
