use Rattle.pua_steps.proofs.Common.{◌≡◌, ◌≤◌, ◌-◌, ℕ, None, length, IsCounted, looks, AreOpen, IsSameWalk, IsLonger}
use Rattle.pua_steps.specs.Ready.{left_over, HasSoundTables}
use Rattle.pua_steps.proofs.walk.Walk.turn.Given as goal

abbrev pub invariant-loop-self : goal.invariant-loop-self
invariant-loop-self l = record {
  same : IsSameWalk l.fn.self l.self;
  sound : HasSoundTables l.self;
  states : AreOpen l.self.tables.steps l.self.tables.counted.lists l.self.frames.items;
  calls : l.self.calls ≡ 0;
  behind : l.self.behind ≡ None;
  framed : length l.self.word.items ≡ length l.self.frames.items - 1;
  most : length l.self.frames.items ≤ l.self.limit;
  unchanged : l.self.unchanged ≡ l.fn.self.unchanged;
  front : IsLonger ℕ l.self.word.items l.fn.self.word.items;
  so_far : (n : ℕ) × (IsCounted l.fn.self.tables.counted.reads n l.self.tables.counted.reads ×
      (left_over l.fn.self l.fn.self.frames.items ≡ looks n (left_over l.self l.self.frames.items)));
}

abbrev pub decreases-loop-self : goal.decreases-loop-self
decreases-loop-self l = length l.self.frames.items
