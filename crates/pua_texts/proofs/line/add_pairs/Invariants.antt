use Rattle.pua_texts.proofs.Common.{◌≡◌, length, pair_lines}
use Rattle.pua_texts.proofs.Passing.{Passing}
use Rattle.pua_texts.proofs.line.add_pairs.Given as goal

-- the lines of the pairs that were given are added, and the others are still to come
abbrev pub invariant-loop-lines : goal.invariant-loop-lines
invariant-loop-lines g l = record {
  tree : g.P.Probe.tree l.probe ≡ l.audit.tree;
  base : l.audit.base ≡ l.fn.audit.base;
  lines : Passing (pair_lines l.fn.audit.base l.fn.audit.left) (pair_lines l.fn.audit.base l.audit.left)
      l.fn.block l.block (g.S.Sink.written l.fn.sink) (g.S.Sink.written l.sink) (g.S.Sink.failed l.fn.sink) (g.S.Sink.failed l.sink);
}

abbrev pub decreases-loop-lines : goal.decreases-loop-lines
decreases-loop-lines g l = length l.audit.left
