use Rattle.std.proofs.Common.{◌≡◌, nat_eq, length}
use Rattle.std.specs.List.{list_any}
use Rattle.pua_calls.specs.Calls.{call_number}
use Rattle.pua_examples.proofs.calling.is_lent.Given as goal

-- the audit stays one of the probe's tree, and no pair that was lent has the call
abbrev pub invariant-loop-line : goal.invariant-loop-line
invariant-loop-line g l = record {
  tree : l.probe.tree ≡ l.audit.tree;
  none : list_any (λ pair. nat_eq (call_number pair.1) (call_number l.fn.call)) l.audit.left
      ≡ list_any (λ pair. nat_eq (call_number pair.1) (call_number l.fn.call)) l.fn.audit.left;
}

abbrev pub decreases-loop-line : goal.decreases-loop-line
decreases-loop-line g l = length l.audit.left
