use Rattle.std.proofs.Common.{drop}
use Rattle.pua_tool.specs.Pieces.{line_of}
use Rattle.pua_tool.proofs.LinesWritten.{Leads}
use Rattle.pua_tool.proofs.line.put_line.Given as goal

-- what is still to come is written behind the pieces so far
abbrev pub invariant-loop-piece : goal.invariant-loop-piece
invariant-loop-piece g l = Leads (line_of (drop l.piece-index l.pieces)) (line_of l.pieces) (g.E.Sink.written l.fn.err)
    (g.E.Sink.written l.err) (g.E.Sink.failed l.fn.err) (g.E.Sink.failed l.err)
