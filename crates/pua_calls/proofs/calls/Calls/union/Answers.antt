use Rattle.pua_calls.proofs.Common.{rules}
use Rattle.pua_calls.proofs.CallBits.{has_or, or_below}
use Rattle.pua_calls.proofs.calls.Calls.union.Goals as goal

pub returns : goal.returns
returns c = search (rules, has_or, or_below)
