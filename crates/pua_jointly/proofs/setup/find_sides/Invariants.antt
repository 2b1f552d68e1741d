use Rattle.pua_jointly.proofs.Common.{◌≡◌, map, take}
use Rattle.pua_jointly.specs.JointMembers.{Each}
use Rattle.pua_jointly.specs.JointSides.{IsPart}
use Rattle.pua_jointly.proofs.setup.find_sides.Given as goal

abbrev pub invariant-loop-place : goal.invariant-loop-place
invariant-loop-place l = record {
  devices : map (λ side. side.device) l.sides.items ≡ take l.place l.parts.kinds.now;
  each : Each (IsPart l.parts) l.sides.items;
}
