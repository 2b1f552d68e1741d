use Rattle.std.proofs.Common.{length, ◌-◌, ◌≤◌}
use Rattle.pua_audit.proofs.table.spots.run_in.Given as goal

abbrev pub invariant-loop-count : goal.invariant-loop-count
invariant-loop-count l = l.count ≤ length l.spots

abbrev pub decreases-loop-count : goal.decreases-loop-count
decreases-loop-count l = length l.spots - l.count
