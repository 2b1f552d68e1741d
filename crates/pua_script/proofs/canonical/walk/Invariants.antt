use Rattle.pua_script.proofs.Common.{◌≡◌, ◌≤◌, ◌+◌, length, ◌==◌}
use Rattle.std.proofs.Common.{drop}
use Rattle.std.specs.List.{slice_split}
use Rattle.pua_tree.specs.Names.{components}
use Rattle.pua_script.specs.Beside.{at_root, beside}
use Rattle.pua_script.proofs.canonical.walk.Given as goal

abbrev pub invariant-loop-piece : goal.invariant-loop-piece
invariant-loop-piece l =
    (beside (components l.fn.path) l.at (drop (length l.yielded) (slice_split (λ b. b == 47) l.fn.text)) ≡
    beside (components l.fn.path) at_root (slice_split (λ b. b == 47) l.fn.text))
    × (l.at.come + l.at.beyond ≤ length l.yielded)
