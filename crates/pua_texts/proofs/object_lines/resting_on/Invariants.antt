use Rattle.pua_texts.proofs.Common.{◌≡◌, drop, bit_or, filter, calls, calls_in, has, resting_on}
use Rattle.pua_texts.proofs.object_lines.resting_on.Given as goal

-- what the calls so far rest on, with what the others do
abbrev pub invariant-loop-call : goal.invariant-loop-call
invariant-loop-call l = bit_or l.resting (resting_on l.table l.process (filter (has l.calls) (drop l.call-index calls)))
    ≡ resting_on l.table l.process (calls_in l.calls)
