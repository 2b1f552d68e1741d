use Rattle.pua_policy.proofs.Common.{◌≡◌, Tree}
use Rattle.pua_policy.specs.Objects.{object_seen}
use Rattle.pua_policy.specs.Verdict.{Object, covered_verdict, is_allowed}
use Rattle.pua_calls.proofs.ForCallers.{Decides}
use Rattle.pua_policy.proofs.judge.allowed.Given as goal

-- of the calls so far those that are allowed are in the set
abbrev pub invariant-loop-call : goal.invariant-loop-call
invariant-loop-call l = record {
  decided : (t : Tree) (judged : Object) → l.object ≡ object_seen t judged
      → Decides (λ call. is_allowed (covered_verdict t l.table l.process call l.cover judged)) l.calls l.call-index;
}
