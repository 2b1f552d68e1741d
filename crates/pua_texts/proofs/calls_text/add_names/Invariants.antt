use Rattle.pua_texts.proofs.Common.{◌≡◌, ◌≤◌, ◌+◌, ◌++◌, ◌∷◌, [], length, if◌then◌else◌}
use Rattle.std.proofs.Common.{◌*◌}
use Rattle.pua_texts.proofs.ObjectLines.{calls_left}
use Rattle.pua_texts.proofs.calls_text.add_names.Given as goal

-- the names of the calls that were asked for are added, and those of the others are still to come
abbrev pub invariant-loop-call : goal.invariant-loop-call
invariant-loop-call l = record {
  short : length l.block ≤ length l.fn.block + 15 * l.call-index;
  names : l.block ++ calls_left l.calls (if l.is_first then [] else 44 ∷ []) l.call-index ≡ l.fn.block ++ calls_left l.calls [] 0;
}
