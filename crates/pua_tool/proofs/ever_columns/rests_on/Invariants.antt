use Rattle.std.specs.Prelude.{◌≡◌, drop, bit_or, filter}
use Rattle.pua_calls.specs.Calls.{calls}
use Rattle.pua_calls.specs.CallSets.{calls_in, has}
use Rattle.pua_tool.specs.EverWhyTexts.{rests_on}
use Rattle.pua_tool.proofs.ever_columns.rests_on.Given as goal

-- what the calls so far rest on, with what the others do
abbrev pub invariant-loop-call : goal.invariant-loop-call
invariant-loop-call l = bit_or l.resting (rests_on l.table l.held l.given (filter (has l.calls) (drop l.call-index calls)))
    ≡ rests_on l.table l.held l.given (calls_in l.calls)
