use Rattle.pua_ever.proofs.Common.{ℕ, ◌<◌, ◌≤◌}
use Rattle.std.proofs.Common.{get_or}
use Rattle.pua_ever.specs.Destinations.{depth}
use Rattle.pua_ever.proofs.destinations.shallowest.Given as goal

-- none so far stands less deep than the first
abbrev pub invariant-loop-place : goal.invariant-loop-place
invariant-loop-place g l = record {
  first : depth (g.T.FileTree.content l.tree) (get_or l.dirs l.first 0) ≤ l.least;
  below : (place : ℕ) → place < l.place → l.least ≤ depth (g.T.FileTree.content l.tree) (get_or l.dirs place 0);
}
