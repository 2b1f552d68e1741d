use Rattle.pua_calls.proofs.Common.{rules}
use Rattle.pua_calls.proofs.promises.Promises.contains.Goals as goal

pub returns : goal.returns
returns c = search rules
