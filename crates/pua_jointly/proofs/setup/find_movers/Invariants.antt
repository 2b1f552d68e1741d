use Rattle.pua_jointly.proofs.Common.{◌≡◌, length}
use Rattle.std.specs.Prelude.{◌+◌}
use Rattle.pua_jointly.specs.JointMembers.{Each}
use Rattle.pua_jointly.specs.JointSides.{IsMoverOf}
use Rattle.pua_jointly.proofs.setup.find_movers.Given as goal

abbrev pub invariant-loop-place : goal.invariant-loop-place
invariant-loop-place l = record {
  many : length l.movers.items ≡ l.place;
  each : Each (IsMoverOf l.share.parts.agents.now (l.share.parts.size.shape.last + 1) l.share.parts.size.shape.hands l.share.first) l.movers.items;
}
