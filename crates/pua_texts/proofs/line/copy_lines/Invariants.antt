use Rattle.std.proofs.Common.{◌+◌, ◌≤◌, ◌∷◌, ℕ, List, suc, length}
use Rattle.std.specs.Prelude.{◌*◌}
use Rattle.pua_calls.specs.Calls.{call_count}
use Rattle.pua_audit.specs.Coming.{calls_at}
use Rattle.pua_texts.specs.Copied.{Copied}
use Rattle.pua_texts.specs.PathLines.{printed_lines}
use Rattle.pua_texts.proofs.line.copy_lines.Given as goal

-- where all lines fit, those of this call and of the calls after it have room, and whoever copies them has copied all lines
abbrev pub invariant-calls : goal.invariant-calls
invariant-calls l = record {
  room : l.fn.at + suc call_count * (length l.lines.path.now + 16) ≤ length l.fn.buffer →
      l.end + suc (length (calls_at l.later)) * (length l.lines.path.now + 16) ≤ length l.buffer;
  lines : l.fn.at + suc call_count * (length l.lines.path.now + 16) ≤ length l.fn.buffer → (new : List ℕ) (e : ℕ) →
      Copied l.buffer new l.end (printed_lines l.lines.path.now (l.call ∷ calls_at l.later)) e →
      Copied l.fn.buffer new l.fn.at (printed_lines l.lines.path.now (l.lines.call ∷ calls_at l.lines.later)) e;
}

abbrev pub decreases-calls : goal.decreases-calls
decreases-calls l = length (calls_at l.later)
