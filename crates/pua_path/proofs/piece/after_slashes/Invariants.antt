use Rattle.pua_path.proofs.Common.{◌≡◌, length, after_slashes}
use Rattle.pua_path.proofs.piece.after_slashes.Given as goal

abbrev pub invariant-loop-rest : goal.invariant-loop-rest
invariant-loop-rest l = after_slashes l.rest ≡ after_slashes l.fn.text

abbrev pub decreases-loop-rest : goal.decreases-loop-rest
decreases-loop-rest l = length l.rest
