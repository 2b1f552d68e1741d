use Rattle.pua_since.proofs.Common.{string_bytes, iter_rest}
use Rattle.pua_since.proofs.RunWithReasons.{IsTold}
use Rattle.pua_since.proofs.reason_lines.lines_text.Given as goal

abbrev pub invariant-loop-done : goal.invariant-loop-done
invariant-loop-done g l =
    IsTold l.fn.world l.fn.watches l.fn.requests l.fn.answers l.fn.places l.world l.watches (iter_rest l.done-iterator.iter.a)
    (iter_rest l.done-iterator.iter.b) (iter_rest l.left) l.done-iterator.count (string_bytes l.text)
