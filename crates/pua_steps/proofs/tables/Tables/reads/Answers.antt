use Rattle.pua_steps.proofs.Common.{rules}
use Rattle.pua_steps.proofs.tables.Tables.reads.Goals as goal

pub returns : goal.returns
returns c = search rules
