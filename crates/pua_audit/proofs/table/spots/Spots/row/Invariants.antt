use Rattle.pua_audit.proofs.Common.{◌≡◌, ◌≤◌, ◌+◌, ◌*◌, ℕ, length, letter_cost, object_cost, AreCovered, judge_in, AreLiving}
use Rattle.pua_audit.proofs.Common.{cover_in, IsGrown, IsJudgedRow}
use Rattle.pua_audit.proofs.Lists.{IsReached}
use Rattle.pua_audit.proofs.table.spots.Spots.row.Given as goal

-- the row has all letters before the next one that is looked up
abbrev pub invariant-loop-letter : goal.invariant-loop-letter
invariant-loop-letter g l = record {
  row : AreCovered l.self.terms.now.seen.tree l.self.terms.now.process l.fn.dirs
      → l.fn.over ≡ cover_in l.self.terms.now.seen.tree l.self.terms.now.process l.dir
      → (n : ℕ) → n ≤ length l.self.terms.now.letters → IsReached l.letter-items l.letter-index n →
      IsJudgedRow (judge_in l.self.terms.now) l.self.terms.now.letters l.dirs.numbers l.dir n l.within.missing l.entries.items;
  grown : IsGrown l.fn.dirs.numbers l.dirs.numbers;
  living : AreLiving l.self.terms.now.seen.tree l.fn.dirs.numbers → AreLiving l.self.terms.now.seen.tree l.dirs.numbers;
  covered : AreCovered l.self.terms.now.seen.tree l.self.terms.now.process l.fn.dirs
      → AreCovered l.self.terms.now.seen.tree l.self.terms.now.process l.dirs;
  tree : g.P.Probe.tree l.probe ≡ l.self.terms.now.seen.tree;
  cost : g.P.Probe.count l.probe ≤ g.P.Probe.count l.fn.probe
      + (object_cost l.self.terms.now.seen.tree + l.letter-index * letter_cost l.self.terms.now.seen.tree);
}
