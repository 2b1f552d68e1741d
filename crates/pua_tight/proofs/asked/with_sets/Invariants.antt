use Rattle.std.proofs.Common.{◌≡◌, take}
use Rattle.std.specs.Prelude.{bit_or}
use Rattle.pua_tight.specs.Tight.{union}
use Rattle.pua_tight.proofs.asked.with_sets.Given as goal

-- the sets so far, and the others
abbrev pub invariant-loop-set : goal.invariant-loop-set
invariant-loop-set l = l.asked ≡ bit_or (union (take l.set-index l.sets)) l.fn.others
