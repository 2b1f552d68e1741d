use Rattle.pua_texts.proofs.Common.{◌∷◌, length}
use Rattle.pua_audit.specs.Coming.{calls_at}
use Rattle.pua_texts.specs.PathLines.{path_lines}
use Rattle.pua_texts.proofs.Passing.{Passing}
use Rattle.pua_texts.proofs.line.add_lines.Given as goal

-- the lines of the calls before this one are added, and the others are still to come
abbrev pub invariant-calls : goal.invariant-calls
invariant-calls g l = record {
  lines : Passing (path_lines l.lines.path.now (l.lines.call ∷ calls_at l.lines.later))
      (path_lines l.lines.path.now (l.call ∷ calls_at l.later))
      l.fn.block l.block (g.S.Sink.written l.fn.sink) (g.S.Sink.written l.sink) (g.S.Sink.failed l.fn.sink) (g.S.Sink.failed l.sink);
}

abbrev pub decreases-calls : goal.decreases-calls
decreases-calls g l = length (calls_at l.later)
