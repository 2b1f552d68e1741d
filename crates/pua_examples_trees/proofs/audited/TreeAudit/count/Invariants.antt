use Rattle.std.proofs.Common.{◌≡◌, length}
use Rattle.pua_examples_trees.proofs.audited.TreeAudit.count.Given as goal

-- the audit stays one of the probe's tree
abbrev pub invariant-loop-lines : goal.invariant-loop-lines
invariant-loop-lines g l = l.self.probe.tree ≡ l.self.audit.tree

abbrev pub decreases-loop-lines : goal.decreases-loop-lines
decreases-loop-lines g l = length l.self.audit.left
