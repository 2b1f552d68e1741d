use Rattle.pua_texts.proofs.Passing.{Passing}
use Rattle.pua_texts.proofs.ObjectLines.{path_left}
use Rattle.pua_texts.proofs.list_line.add_rest.Given as goal

-- the names so far are added, and the others are still to come
abbrev pub invariant-loop-name : goal.invariant-loop-name
invariant-loop-name g l = record {
  path : Passing (path_left l.word 0) (path_left l.word l.name-index)
      l.fn.block l.block (g.S.Sink.written l.fn.sink) (g.S.Sink.written l.sink) (g.S.Sink.failed l.fn.sink) (g.S.Sink.failed l.sink);
}
