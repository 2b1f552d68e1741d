use Rattle.std.proofs.Common.{◌≡◌, take}
use Rattle.std.specs.Prelude.{flat_map}
use Rattle.pua_tight.specs.Tight.{union, used_by}
use Rattle.pua_tight.proofs.asked.all_used.Given as goal

-- what the requests so far ask for
abbrev pub invariant-loop-request : goal.invariant-loop-request
invariant-loop-request l = l.used ≡ union (flat_map (λ ask. used_by ask.action) (take l.request-index l.requests))
