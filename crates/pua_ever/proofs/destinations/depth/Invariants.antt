use Rattle.pua_ever.proofs.Common.{ℕ, ◌≡◌, length, true, is_dir, climb}
use Rattle.std.proofs.Common.{◌+◌, min}
use Rattle.pua_ever.proofs.destinations.depth.Given as goal

-- so many directories were passed, and the rest of the climb has the others
abbrev pub invariant-loop-at : goal.invariant-loop-at
invariant-loop-at g l = record {
  passed : ℕ;
  count : l.count ≡ min (passed + 1) 18446744073709551615;
  living : is_dir (g.T.FileTree.content l.fn.tree) l.at ≡ is_dir (g.T.FileTree.content l.fn.tree) l.fn.dir;
  all : is_dir (g.T.FileTree.content l.fn.tree) l.fn.dir ≡ true →
      passed + length (climb (g.T.FileTree.content l.fn.tree) l.at) ≡ length (climb (g.T.FileTree.content l.fn.tree) l.fn.dir);
}

-- which gets shorter
abbrev pub decreases-loop-at : goal.decreases-loop-at
decreases-loop-at g l = length (climb (g.T.FileTree.content l.tree) l.at)
