use Rattle.pua_jointly.proofs.Common.{◌≡◌, ◌<◌, ℕ, length, true, false}
use Rattle.std.specs.Prelude.{◌+◌, ◌*◌}
use Rattle.pua_jointly.specs.Closing.{AreReached, IsClosedAt, room}
use Rattle.pua_jointly.proofs.closing.add_all.Given as goal

-- the rows so far have what follows, if nothing was added
abbrev pub invariant-loop-row : goal.invariant-loop-row
invariant-loop-row g l = record {
  full : length l.told.items ≡ length l.fn.told.items;
  reached : AreReached (g.S.Steps.follows l.steps) l.fn.told.items → AreReached (g.S.Steps.follows l.steps) l.told.items;
  same : l.is_changed ≡ false → l.told.items ≡ l.fn.told.items;
  closed : AreReached (g.S.Steps.follows l.steps) l.fn.told.items → l.is_changed ≡ false → (row : ℕ) → row < l.row → (column : ℕ) →
      column < g.S.Steps.columns l.steps → row * g.S.Steps.columns l.steps + column < length l.told.items →
      IsClosedAt (g.S.Steps.follows l.steps) l.told.items (row * g.S.Steps.columns l.steps + column);
  fewer : l.is_changed ≡ true → room l.told.items < room l.fn.told.items;
}
