use Rattle.pua_calls.proofs.Common.{rules}
use Rattle.pua_calls.proofs.table.pair.NameNeed.last.Goals as goal

pub returns : goal.returns
returns c = search rules
