use Rattle.pua_texts.proofs.Common.{length}
use Rattle.pua_texts.specs.ListLines.{lines_text}
use Rattle.pua_texts.proofs.Passing.{Passing}
use Rattle.pua_texts.proofs.list_line.add_lines.Given as goal

-- the lines so far are added, and the others are still to come
abbrev pub invariant-loop-line : goal.invariant-loop-line
invariant-loop-line g l = record {
  lines : Passing (lines_text l.columns l.fn.lines.word l.fn.lines.left) (lines_text l.columns l.lines.word l.lines.left)
      l.fn.block l.block (g.S.Sink.written l.fn.sink) (g.S.Sink.written l.sink) (g.S.Sink.failed l.fn.sink) (g.S.Sink.failed l.sink);
}

abbrev pub decreases-loop-line : goal.decreases-loop-line
decreases-loop-line g l = length l.lines.left
