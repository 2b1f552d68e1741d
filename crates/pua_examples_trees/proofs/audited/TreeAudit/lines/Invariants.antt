use Rattle.std.proofs.Common.{◌≡◌, length}
use Rattle.pua_examples_trees.proofs.audited.TreeAudit.lines.Given as goal

-- the audit stays one of the probe's tree
abbrev pub invariant-loop-line : goal.invariant-loop-line
invariant-loop-line g l = l.self.probe.tree ≡ l.self.audit.tree

abbrev pub decreases-loop-line : goal.decreases-loop-line
decreases-loop-line g l = length l.self.audit.left
