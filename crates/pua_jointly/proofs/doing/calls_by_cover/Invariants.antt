use Rattle.pua_jointly.proofs.Common.{◌≡◌, length}
use Rattle.pua_jointly.specs.JointCovers.{AreCallsByCover}
use Rattle.pua_jointly.proofs.doing.calls_by_cover.Given as goal

abbrev pub invariant-loop-bit : goal.invariant-loop-bit
invariant-loop-bit l = record {
  full : length l.calls.items ≡ l.bit;
  known : AreCallsByCover l.table l.process l.calls.items;
}
