use Rattle.pua_tool.proofs.Common.{◌≡◌, map}
use Rattle.std.proofs.Common.{take}
use Rattle.std.specs.Prelude.{filter}
use Rattle.std.specs.List.{AllByRecursion}
use Rattle.pua_calls.specs.Calls.{calls}
use Rattle.pua_calls.specs.CallSets.{has}
use Rattle.pua_tool.specs.RowColumns.{IsCountTo, done_behind, tried_behind}
use Rattle.pua_tool.proofs.columns.counts_on.Given as goal

-- of the calls so far those that are asked for have their counts
abbrev pub invariant-loop-call : goal.invariant-loop-call
invariant-loop-call l = record {
  calls : map (λ count. count.0) l.counts.items ≡ filter (has l.calls) (take l.call-index calls);
  counted : AllByRecursion (IsCountTo l.behind.rules (done_behind l.behind) l.behind.number l.target) l.counts.items;
  trials : l.trials ≡ tried_behind l.behind;
}
