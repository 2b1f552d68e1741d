use Rattle.pua_calls.proofs.Common.{rules}
use Rattle.pua_calls.proofs.table.CallTable.read_over.Goals as goal

pub returns-clause-read : goal.returns-clause-read
returns-clause-read c = search rules
