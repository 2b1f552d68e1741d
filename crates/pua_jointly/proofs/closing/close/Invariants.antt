use Rattle.pua_jointly.proofs.Common.{◌≡◌, length}
use Rattle.std.specs.Prelude.{◌*◌}
use Rattle.pua_jointly.specs.Closing.{AreReached, room}
use Rattle.pua_jointly.proofs.closing.close.Given as goal

abbrev pub invariant-loop : goal.invariant-loop
invariant-loop g l = record {
  full : length l.told.items ≡ l.rows * g.S.Steps.columns l.steps;
  reached : AreReached (g.S.Steps.follows l.steps) l.told.items;
}

abbrev pub decreases-loop : goal.decreases-loop
decreases-loop g l = room l.told.items
