use Rattle.pua_audit.proofs.Common.{◌≡◌, ◌<◌, ◌≤◌, ◌+◌, ◌*◌, ◌-◌, suc, length, get_or, row_cost, AreCovered, judge_in}
use Rattle.pua_audit.proofs.Common.{AreLiving}
use Rattle.pua_audit.proofs.Made.{AreRows}
use Rattle.pua_audit.proofs.terms.Terms.table.Given as goal

-- the first directories have their rows
abbrev pub invariant-loop-dir : goal.invariant-loop-dir
invariant-loop-dir g l = record {
  rows : AreRows (judge_in l.spots.terms.now) l.spots.terms.now.letters l.dirs.numbers l.rows.items;
  within : length l.rows.items ≤ length l.dirs.numbers;
  some : 0 < length l.dirs.numbers;
  first : get_or l.dirs.numbers 0 0 ≡ l.fn.base;
  living : AreLiving l.spots.terms.now.seen.tree l.dirs.numbers;
  covered : AreCovered l.spots.terms.now.seen.tree l.spots.terms.now.process l.dirs;
  tree : g.P.Probe.tree l.probe ≡ l.spots.terms.now.seen.tree;
  cost : g.P.Probe.count l.probe ≤ g.P.Probe.count l.fn.probe
      + suc (length l.rows.items * row_cost l.spots.terms.now.seen.tree (length l.spots.terms.now.letters));
}

abbrev pub decreases-loop-dir : goal.decreases-loop-dir
decreases-loop-dir g l = 4294967296 - length l.rows.items
