use Rattle.pua_tool.proofs.Common.{sym, OutOfMemory, Tool}
use Rattle.pua_tool.specs.declared.outcome.CommandFault.TheVariants.{Usage}
use Rattle.pua_tool.proofs.cli.stopped.Goals as goal

pub returns-in-Usage-clause-told : goal.returns-in-Usage-clause-told
returns-in-Usage-clause-told g c other = (Usage c.in-Usage.line, sym c.finish.ensures.status, tt, c.finish.ensures.told)

pub returns-in-OutOfMemory-clause-told : goal.returns-in-OutOfMemory-clause-told
returns-in-OutOfMemory-clause-told g c other = (
  Tool OutOfMemory,
  sym c.finish-in-OutOfMemory.ensures.status,
  tt,
  c.finish-in-OutOfMemory.ensures.told,
)
