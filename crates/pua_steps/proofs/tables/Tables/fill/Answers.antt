use Rattle.pua_steps.proofs.Common.{rules}
use Rattle.pua_steps.proofs.tables.Tables.fill.Goals as goal

pub returns-clause-reads : goal.returns-clause-reads
returns-clause-reads c = search rules
