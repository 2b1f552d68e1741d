use Rattle.pua_jointly.proofs.Common.{◌≡◌, Call, Object, empty_tree, has, list_any}
use Rattle.std.specs.Prelude.{◌≤◌, ◌-◌}
use Rattle.pua_policy.specs.Objects.{object_seen}
use Rattle.pua_jointly.specs.JointCovers.{AreCallsByCover, allows_under, numbered}
use Rattle.pua_jointly.proofs.agent.Agent.calls_under.Given as goal

abbrev pub invariant-loop-bit : goal.invariant-loop-bit
invariant-loop-bit l = record {
  told : AreCallsByCover l.table l.self.process.now l.self.calls.items → (judged : Object) → l.object ≡ object_seen empty_tree judged →
      (call : Call) → has l.calls call ≡ list_any (allows_under l.table l.self.process.now l.covers judged call) (numbered l.bit);
  low : l.bit ≤ 18;
}

abbrev pub decreases-loop-bit : goal.decreases-loop-bit
decreases-loop-bit l = 18 - l.bit
