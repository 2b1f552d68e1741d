use Rattle.pua_steps.proofs.Common.{◌≡◌, ℕ, length, IsOpen, narrow_of, rest_of, live_of, branches, IsCounted, looks}
use Rattle.pua_steps.proofs.tables.Tables.next_visit.Given as goal

abbrev pub invariant-loop-visit : goal.invariant-loop-visit
invariant-loop-visit l = record {
  steps : l.self.steps ≡ l.fn.self.steps;
  live : l.self.live ≡ l.fn.self.live;
  lists : l.self.counted.lists ≡ l.fn.self.counted.lists;
  waits : IsOpen l.fn.self.steps l.fn.self.counted.lists l.frame;
  so_far : (n : ℕ) × (IsCounted l.fn.self.counted.reads n l.self.counted.reads ×
      (branches (narrow_of l.fn.self.steps l.fn.self.live) (live_of l.fn.self.live) l.left
      (rest_of l.fn.self.steps l.fn.self.counted.lists l.fn.frame)
      ≡ looks n (branches (narrow_of l.fn.self.steps l.fn.self.live) (live_of l.fn.self.live) l.left
      (rest_of l.fn.self.steps l.fn.self.counted.lists l.frame))));
}

abbrev pub decreases-loop-visit : goal.decreases-loop-visit
decreases-loop-visit l = length (rest_of l.fn.self.steps l.fn.self.counted.lists l.frame)
