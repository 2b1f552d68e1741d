use Rattle.std.proofs.Common.{◌≡◌, drop}
use Rattle.pua_policy.specs.States.{ProcessState}
use Rattle.pua_how.specs.PathQuestion.{targets_in}
use Rattle.pua_how.proofs.path_question.spot_of.Given as goal

-- what is meant is what the names that are left mean from here on
abbrev pub invariant-loop-next : goal.invariant-loop-next
invariant-loop-next g l = record {
  same : (h : ProcessState) → targets_in (g.T.FileTree.content l.tree) h 0 l.first l.more
      ≡ targets_in (g.T.FileTree.content l.tree) h l.dir l.name (drop l.next-index l.more);
}
