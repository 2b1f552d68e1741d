use Rattle.pua_calls.proofs.Common.{rules}
use Rattle.pua_calls.proofs.promises.Promises.read.Goals as goal

pub returns-then-is_empty : goal.returns-then-is_empty
returns-then-is_empty c = search rules
