use Rattle.pua_tree.proofs.Common.{ℕ, ◌≡◌, ◌+◌, ◌==◌, true, list_any, climb_within, is_dir}
use Rattle.pua_tree.specs.Tree.{is_within}
use Rattle.pua_tree.proofs.judgement.is_within.Given as goal

-- the rest of the climb, from a directory, decides
abbrev pub invariant-loop : goal.invariant-loop
invariant-loop g l =
    (is_dir (g.T.Judged.held l.fn.tree) l.at ≡ true)
    × ((n : ℕ) → l.counter + n ≡ l.end → list_any (λ d. d == l.fn.outer) (climb_within n (g.T.Judged.held l.fn.tree) l.at)
    ≡ is_within (g.T.Judged.held l.fn.tree) l.fn.dir l.fn.outer)
