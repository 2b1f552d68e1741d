use Rattle.std.proofs.Common.{◌≡◌}
use Rattle.std.specs.Prelude.{slice_get}
use Rattle.pua_advice.specs.Advice.{line_at}
use Rattle.pua_advice.proofs.line.line_at.Given as goal

abbrev pub invariant-loop-line : goal.invariant-loop-line
invariant-loop-line l = line_at l.fn.script l.fn.number ≡ slice_get l.line-iterator l.left
