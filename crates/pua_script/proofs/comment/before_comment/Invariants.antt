use Rattle.pua_script.proofs.Common.{◌≤◌, length}
use Rattle.std.proofs.Common.{◌-◌}
use Rattle.pua_script.proofs.Commenting.{ReadTo}
use Rattle.pua_script.proofs.comment.before_comment.Given as goal

-- so many bytes are kept of those so far, and they say what the text is
abbrev pub invariant-loop-at : goal.invariant-loop-at
invariant-loop-at l = (l.at ≤ length l.line) × (l.length ≤ l.at) × ReadTo l.line l.length l.may_begin l.at

-- proposed from the loop's first test
abbrev pub decreases-loop-at : goal.decreases-loop-at
decreases-loop-at l = length l.line - l.at
