use Rattle.pua_texts.proofs.Common.{◌≡◌, drop, map, veil_lines}
use Rattle.pua_texts.proofs.Passing.{Passing}
use Rattle.pua_texts.proofs.veil_line.add_veils.Given as goal

-- the lines so far are added, and the others are still to come
abbrev pub invariant-loop-veil : goal.invariant-loop-veil
invariant-loop-veil g l = record {
  tree : l.places.tree ≡ l.fn.places.tree;
  lines : Passing (veil_lines l.fn.places.tree (map (λ veil. (veil.0.now, veil.1.now)) l.veils))
      (veil_lines l.fn.places.tree (map (λ veil. (veil.0.now, veil.1.now)) (drop l.veil-index l.veils)))
      l.fn.block l.block (g.S.Sink.written l.fn.sink) (g.S.Sink.written l.sink) (g.S.Sink.failed l.fn.sink) (g.S.Sink.failed l.sink);
}
