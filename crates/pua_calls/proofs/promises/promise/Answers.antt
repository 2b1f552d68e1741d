use Rattle.pua_calls.proofs.Common.{sym}
use Rattle.pua_calls.proofs.Keywords.{promise_of-below}
use Rattle.pua_calls.proofs.promises.promise.Goals as goal

pub invariant_of-result : goal.invariant_of-result
invariant_of-result c = promise_of-below c.args.word.now _ (sym c.in_ok-keywords.ensures)
