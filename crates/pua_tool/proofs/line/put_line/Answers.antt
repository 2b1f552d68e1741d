use Rattle.pua_tool.specs.Pieces.{line_of}
use Rattle.pua_tool.proofs.LinesWritten.{leads_on}
use Rattle.pua_tool.proofs.line.put_line.Goals as goal

pub loop-piece-preserved : goal.loop-piece-preserved
loop-piece-preserved g c =
    leads_on c.args.pieces.now c.loop-piece.piece-index _ (line_of c.args.pieces.now)
    (g.E.Sink.written c.args.err.now) (g.E.Sink.written c.loop-piece.err) (g.E.Sink.written c.put_piece.new.err)
    (g.E.Sink.failed c.args.err.now) (g.E.Sink.failed c.loop-piece.err) (g.E.Sink.failed c.put_piece.new.err)
    c.loop-piece-test.true c.loop-piece.invariant c.in_ok-put_piece.ensures.0 c.in_ok-put_piece.ensures.1
