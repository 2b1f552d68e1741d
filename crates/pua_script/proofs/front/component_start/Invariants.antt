use Rattle.std.proofs.Common.{◌≡◌, length, ◌+◌}
use Rattle.pua_script.specs.Decide.{component_start}
use Rattle.pua_script.proofs.front.component_start.Given as goal

abbrev pub invariant-loop-rest : goal.invariant-loop-rest
invariant-loop-rest l = (component_start l.start l.run l.rest ≡ component_start 0 0 l.fn.path) ×
    (l.start + l.run + length l.rest ≡ length l.fn.path)

abbrev pub decreases-loop-rest : goal.decreases-loop-rest
decreases-loop-rest l = length l.rest
