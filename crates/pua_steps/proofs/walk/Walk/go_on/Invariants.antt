use Rattle.pua_steps.proofs.Common.{◌≡◌, ℕ, length, IsCounted, IsReady, IsSameWalk, looks, trail}
use Rattle.std.proofs.Common.{◌≢◌}
use Rattle.pua_steps.specs.Ready.{StaysFront}
use Rattle.pua_steps.proofs.walk.Walk.go_on.Given as goal

abbrev pub invariant-words : goal.invariant-words
invariant-words l = record {
  ready : IsReady l.self;
  same : IsSameWalk l.fn.self l.self;
  unchanged : StaysFront l.fn.self.unchanged l.fn.self.word.items l.self.unchanged l.self.word.items;
  stays : l.fn.self.calls ≢ 0 → (l.self.word ≡ l.fn.self.word) × (l.self.unchanged ≡ l.fn.self.unchanged) ×
      (l.self.calls ≡ l.fn.self.calls);
  so_far : (n : ℕ) × (IsCounted l.fn.self.tables.counted.reads n l.self.tables.counted.reads × (trail l.fn.self ≡ looks n (trail l.self)));
}

abbrev pub decreases-words : goal.decreases-words
decreases-words l = length (trail l.self)
