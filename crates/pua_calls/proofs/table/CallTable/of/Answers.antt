use Rattle.pua_calls.proofs.Common.{rules}
use Rattle.pua_calls.proofs.table.CallTable.of.Goals as goal

pub returns-in-Openbsd : goal.returns-in-Openbsd
returns-in-Openbsd c = search rules
