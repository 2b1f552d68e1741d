use Rattle.pua_why.proofs.Common.{◌≡◌, ◌++◌, map, take, lacking}
use Rattle.pua_why.proofs.keys.add_lacks.Given as goal

abbrev pub invariant-loop-set : goal.invariant-loop-set
invariant-loop-set l = l.numbers.items ≡ l.fn.numbers.items ++ map (lacking l.held) (take l.set-index l.sets)
