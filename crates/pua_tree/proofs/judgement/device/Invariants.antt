use Rattle.pua_tree.proofs.Common.{ℕ, ◌≡◌, ◌+◌, true, climb_within, is_dir}
use Rattle.pua_tree.specs.Tree.{device, first_mount}
use Rattle.pua_tree.proofs.judgement.device.Given as goal

-- the rest of the climb, from a directory, decides
abbrev pub invariant-loop : goal.invariant-loop
invariant-loop g l =
    (is_dir (g.T.Judged.held l.fn.tree) l.at ≡ true)
    × ((n : ℕ) → l.counter + n ≡ l.end → first_mount (g.T.Judged.held l.fn.tree) (climb_within n (g.T.Judged.held l.fn.tree) l.at)
    ≡ device (g.T.Judged.held l.fn.tree) l.fn.dir)
