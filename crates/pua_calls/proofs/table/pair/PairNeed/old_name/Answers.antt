use Rattle.pua_calls.proofs.Common.{rules}
use Rattle.pua_calls.proofs.table.pair.PairNeed.old_name.Goals as goal

pub returns : goal.returns
returns c = search rules
