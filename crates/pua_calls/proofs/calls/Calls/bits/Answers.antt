use Rattle.pua_calls.proofs.Common.{rules}
use Rattle.pua_calls.proofs.calls.Calls.bits.Goals as goal

pub returns-clause-number : goal.returns-clause-number
returns-clause-number c = search rules
