use Rattle.pua_texts.proofs.Common.{[], Ok, sym, subst, ap, err_from_is_err_and}
use Rattle.pua_texts.specs.ListLines.{NamedState, lines_text}
use Rattle.pua_texts.proofs.ListLines.{line_next}
use Rattle.pua_texts.proofs.Passing.{Passing, passes_none, passing_more, passing_fails, passing_last}
use Rattle.pua_texts.proofs.list_line.add_lines.Goals as goal

pub loop-line-preserved : goal.loop-line-preserved
loop-line-preserved g c =
    let columns = c.args.columns.now in
    let all = lines_text columns c.args.lines.now.word c.args.lines.now.left in
    record {
      lines = subst (λ (s : NamedState). Passing all (lines_text columns s.word s.left) c.args.block.now c.add_last.new.block
          (g.S.Sink.written c.args.sink.now) (g.S.Sink.written c.add_last.new.sink) (g.S.Sink.failed c.args.sink.now)
          (g.S.Sink.failed c.add_last.new.sink)) (sym c.in_ok-add_last.ensures.lines)
          (passing_more _ _ _ _ _ _ _ _ _ _ _ _ _ c.loop-line.invariant.lines
          (line_next columns c.loop-line.lines c.next_line.new.self c.in-Some.line c.in-Some.ensures.0 c.in-Some.ensures.1)
          c.in_ok-add_last.ensures.line);
    }

pub returns-in_err-add_last : goal.returns-in_err-add_last
returns-in_err-add_last g c =
    let columns = c.args.columns.now in
    let p = err_from_is_err_and c.from_residual.result c.from_residual.ensures.1 in
    rw p.1 (passing_fails _ _ _ _ _ _ [] [] p.0 _ _ _ _ _ _ c.loop-line.invariant.lines
    (line_next columns c.loop-line.lines c.next_line.new.self c.in-Some.line c.in-Some.ensures.0 c.in-Some.ensures.1)
    c.in_err-add_last.ensures.line)

pub returns : goal.returns
returns g c =
    passing_last _ _ [] _ _ c.loop-line.block (Ok tt) _ _ _ _ _ _ c.loop-line.invariant.lines
    (ap (lines_text c.args.columns.now c.loop-line.lines.word) c.in_default.ensures)
    (passes_none c.loop-line.block (g.S.Sink.written c.loop-line.sink) (g.S.Sink.failed c.loop-line.sink))
