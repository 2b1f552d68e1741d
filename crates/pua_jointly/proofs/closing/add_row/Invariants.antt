use Rattle.pua_jointly.proofs.Common.{◌≡◌, ◌<◌, ℕ, length, true, false}
use Rattle.std.specs.Prelude.{◌+◌, ◌*◌}
use Rattle.pua_jointly.specs.Closing.{AreReached, IsClosedAt, room}
use Rattle.pua_jointly.proofs.closing.add_row.Given as goal

-- the words so far have what follows, if nothing was added
abbrev pub invariant-loop-column : goal.invariant-loop-column
invariant-loop-column g l = record {
  full : length l.told.items ≡ length l.fn.told.items;
  reached : AreReached (g.S.Steps.follows l.steps) l.fn.told.items → AreReached (g.S.Steps.follows l.steps) l.told.items;
  same : l.is_changed ≡ false → l.told.items ≡ l.fn.told.items;
  closed : l.is_changed ≡ false → (column : ℕ) → column < l.column →
      l.row * g.S.Steps.columns l.steps + column < length l.told.items →
      IsClosedAt (g.S.Steps.follows l.steps) l.told.items (l.row * g.S.Steps.columns l.steps + column);
  fewer : l.is_changed ≡ true → room l.told.items < room l.fn.told.items;
}
