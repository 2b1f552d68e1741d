use Rattle.pua_tool.proofs.Common.{sym, rules}
use Rattle.pua_tool.specs.declared.outcome.CommandFault.TheVariants.{Put}
use Rattle.pua_tool.proofs.cli.at_end.Goals as goal

pub returns-then-status-eq-DONE-clause-reported : goal.returns-then-status-eq-DONE-clause-reported
returns-then-status-eq-DONE-clause-reported g c other = (Put, sym c.finish.ensures.status, tt, c.finish.ensures.told)

pub returns-then-status-eq-DONE-clause-device : goal.returns-then-status-eq-DONE-clause-device
returns-then-status-eq-DONE-clause-device g c = search rules

pub returns-then-status-eq-DONE-clause-told : goal.returns-then-status-eq-DONE-clause-told
returns-then-status-eq-DONE-clause-told g c = search rules
