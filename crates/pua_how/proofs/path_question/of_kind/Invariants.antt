use Rattle.std.proofs.Common.{◌≡◌, filter, take}
use Rattle.pua_how.specs.PathQuestion.{may_be_of}
use Rattle.pua_how.proofs.path_question.of_kind.Given as goal

-- those so far
abbrev pub invariant-loop-target : goal.invariant-loop-target
invariant-loop-target g l = record {
  left : l.left.items ≡ filter (may_be_of (g.T.FileTree.content l.tree) l.kind) (take l.target-index l.targets);
}
