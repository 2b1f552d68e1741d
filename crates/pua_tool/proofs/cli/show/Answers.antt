use Rattle.pua_tool.proofs.Common.{sym, rules}
use Rattle.pua_tool.specs.declared.outcome.CommandFault.TheVariants.{Put}
use Rattle.pua_tool.proofs.cli.show.Goals as goal

pub returns-in-Err-clause-told : goal.returns-in-Err-clause-told
returns-in-Err-clause-told g c other = (Put, sym c.finish.ensures.status, tt, c.finish.ensures.told)

pub returns-in-Err-clause-whole : goal.returns-in-Err-clause-whole
returns-in-Err-clause-whole g c = search rules

pub returns-in-Err-clause-unfailed : goal.returns-in-Err-clause-unfailed
returns-in-Err-clause-unfailed g c = search rules
