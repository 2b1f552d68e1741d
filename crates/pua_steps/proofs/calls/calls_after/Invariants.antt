use Rattle.pua_steps.proofs.Common.{call_count, ◌≡◌, ◌<◌, ◌≤◌, ℕ, bit_at}
use Rattle.pua_steps.proofs.calls.calls_after.Given as goal

abbrev pub invariant-loop-other : goal.invariant-loop-other
invariant-loop-other l = record {
  small : l.rest ≤ l.set;
  gone : (i : ℕ) → i < l.other → bit_at l.rest i ≡ 0;
  kept : (i : ℕ) → i < call_count → l.other ≤ i → bit_at l.rest i ≡ bit_at l.set i;
}
