use Rattle.std.specs.Prelude.{◌&&◌, not}
use Rattle.pua_calls.specs.CallSets.{has}
use Rattle.pua_calls.proofs.ForCallers.{Decides}
use Rattle.pua_tool.proofs.columns.without.Given as goal

-- of the calls so far those that are not among the others are left
abbrev pub invariant-loop-call : goal.invariant-loop-call
invariant-loop-call l = record {
  decided : Decides (λ call. has l.calls call && not (has l.others call)) l.left l.call-index;
}
