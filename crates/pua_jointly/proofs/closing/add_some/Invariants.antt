use Rattle.pua_jointly.proofs.Common.{◌≡◌, length}
use Rattle.pua_jointly.specs.Closing.{AreReached}
use Rattle.pua_jointly.proofs.closing.add_some.Given as goal

abbrev pub invariant-loop-row : goal.invariant-loop-row
invariant-loop-row g l = record {
  full : length l.told.items ≡ length l.fn.told.items;
  reached : AreReached (g.S.Steps.follows l.steps) l.fn.told.items → AreReached (g.S.Steps.follows l.steps) l.told.items;
}
