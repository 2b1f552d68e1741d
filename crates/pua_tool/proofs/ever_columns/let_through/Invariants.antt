use Rattle.pua_calls.specs.Calls.{rule_of}
use Rattle.pua_calls.specs.Promises.{holds}
use Rattle.pua_calls.proofs.ForCallers.{Decides}
use Rattle.pua_tool.proofs.ever_columns.let_through.Given as goal

-- of the calls so far those are let through whose letters are held
abbrev pub invariant-loop-call : goal.invariant-loop-call
invariant-loop-call l = record {
  decided : Decides (λ call. holds l.perms (rule_of l.table call).perms) l.lets l.call-index;
}
