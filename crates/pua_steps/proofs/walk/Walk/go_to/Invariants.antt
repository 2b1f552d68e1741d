use Rattle.pua_steps.proofs.Common.{◌≡◌, ◌≤◌, ◌+◌, ◌*◌, drop, length, min, pairs_after, pairs_of, IsReady, IsSameWalk, trail}
use Rattle.pua_steps.specs.Limits.{search_cost}
use Rattle.pua_steps.specs.Resuming.{to_give_after}
use Rattle.pua_steps.proofs.walk.Walk.go_to.Given as goal

abbrev pub invariant-loop-letter : goal.invariant-loop-letter
invariant-loop-letter l = record {
  ready : IsReady l.self;
  same : IsSameWalk l.fn.self l.self;
  reads : l.self.tables.counted.reads ≤ l.fn.self.tables.counted.reads + search_cost * l.letter-index;
  raised : min l.fn.self.tables.counted.reads 18446744073709551615 ≤ l.self.tables.counted.reads;
  index : l.letter-index ≤ length l.word;
  so_far : to_give_after l.self (drop l.letter-index l.word) l.call ≡ pairs_after (l.word, l.call) (pairs_of (trail l.fn.self));
}
