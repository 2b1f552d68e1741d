use Rattle.pua_calls.specs.Calls.{last_of}
use Rattle.pua_calls.specs.CallSets.{is_last}
use Rattle.pua_calls.proofs.CallBits.{Decides}
use Rattle.pua_calls.proofs.calls.Calls.by_last.Given as goal

-- of the calls so far those with this last part are in the set
abbrev pub invariant-loop-call : goal.invariant-loop-call
invariant-loop-call l = Decides (λ call. is_last l.last (last_of call)) l.calls l.call-index
