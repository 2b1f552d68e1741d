use Rattle.std.proofs.Common.{◌≡◌, take}
use Rattle.std.specs.Prelude.{flat_map}
use Rattle.pua_calls.specs.Calls.{calls, rule_of}
use Rattle.pua_tight.specs.Tight.{union}
use Rattle.pua_tight.proofs.asked.called.Given as goal

-- what the calls so far ask for
abbrev pub invariant-loop-call : goal.invariant-loop-call
invariant-loop-call l = l.asked ≡ union (flat_map (λ call. (rule_of l.table call).alternatives) (take l.call-index calls))
