use Rattle.pua_calls.specs.Calls.{rule_of}
use Rattle.pua_calls.specs.Promises.{holds}
use Rattle.pua_calls.proofs.ForCallers.{Decides}
use Rattle.pua_policy.proofs.allowed_calls.calls_within.Given as goal

-- of the calls so far those that need no other permissions are in the set
abbrev pub invariant-loop-call : goal.invariant-loop-call
invariant-loop-call l = record { decided : Decides (λ call. holds l.perms (rule_of l.table call).perms) l.calls l.call-index }
