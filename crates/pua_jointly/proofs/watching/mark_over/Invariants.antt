use Rattle.pua_jointly.proofs.Common.{length}
use Rattle.pua_tree.specs.Tree.{climb}
use Rattle.pua_jointly.proofs.JointWatches.{Climbing}
use Rattle.pua_jointly.proofs.watching.mark_over.Given as goal

abbrev pub invariant-loop-dir : goal.invariant-loop-dir
invariant-loop-dir g l = Climbing (g.T.FileTree.content l.tree) l.fn.dir l.fn.watched.items l.watched.items l.at

abbrev pub decreases-loop-dir : goal.decreases-loop-dir
decreases-loop-dir g l = length (climb (g.T.FileTree.content l.tree) l.at)
