use Rattle.pua_steps.proofs.Common.{ℕ, ◌≡◌, ◌<◌, ◌≤◌, ◌+◌, ◌-◌, ◌^◌, length, get_or, min, within}
use Rattle.pua_steps.proofs.Finding.{no_entry}
use Rattle.pua_steps.proofs.counted.CountedLists.count_before.Given as goal

abbrev pub invariant-loop-low : goal.invariant-loop-low
invariant-loop-low l = let es = within l.fn.self.lists.entries.items l.span.place l.span.end in record {
  lists : l.self.lists ≡ l.fn.self.lists;
  order : l.low ≤ l.high;
  few : l.high ≤ length es;
  below : (k : ℕ) → k < l.low → (get_or es k no_entry).letter < l.letter;
  above : (k : ℕ) → l.high ≤ k → k < length es → l.letter ≤ (get_or es k no_entry).letter;
  raised : min l.fn.self.reads 18446744073709551615 ≤ l.self.reads;
  halves : (n : ℕ) × ((l.high - l.low < 2 ^ n) × (l.self.reads + n ≤ l.fn.self.reads + 64));
}

abbrev pub decreases-loop-low : goal.decreases-loop-low
decreases-loop-low l = l.high - l.low
