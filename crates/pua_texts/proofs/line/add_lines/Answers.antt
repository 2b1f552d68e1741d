use Rattle.pua_texts.proofs.Common.{◌∷◌, [], Ok, List, refl, sym, ap, ◌∙◌, arith, length, append-nil, err_from_is_err_and}
use Rattle.pua_audit.specs.Coming.{calls_at}
use Rattle.pua_calls.specs.declared.call.Call.{Call}
use Rattle.pua_texts.specs.PathLines.{path_line, path_lines}
use Rattle.pua_texts.proofs.Passing.{passes_none, passing_more, passing_fails, passing_last}
use Rattle.pua_texts.proofs.line.add_lines.Goals as goal

pub calls-init : goal.calls-init
calls-init g c = record {
  lines = record {
    done = [];
    parts = ap (λ (later : List Call). path_lines c.args.lines.path.now (c.args.lines.call ∷ later)) (sym c.later_calls-later.ensures);
    passes = passes_none c.args.block.now (g.S.Sink.written c.args.sink.now) (g.S.Sink.failed c.args.sink.now);
  };
}

pub returns-in_err-add_line : goal.returns-in_err-add_line
returns-in_err-add_line g c = λ _.
    let path = c.args.lines.path.now in
    let p = err_from_is_err_and c.from_residual.result c.from_residual.ensures.1 in
    rw p.1 (passing_fails (path_lines path (c.args.lines.call ∷ calls_at c.args.lines.later))
    (path_lines path (c.calls.call ∷ calls_at c.calls.later)) (path_line path c.calls.call) (path_lines path (calls_at c.calls.later))
    c.args.block.now c.calls.block [] [] p.0
    (g.S.Sink.written c.args.sink.now) (g.S.Sink.written c.calls.sink) (g.S.Sink.written c.add_line.new.sink)
    (g.S.Sink.failed c.args.sink.now) (g.S.Sink.failed c.calls.sink) (g.S.Sink.failed c.add_line.new.sink)
    c.calls.invariant.lines refl c.in_err-add_line.ensures)

pub returns-in_default : goal.returns-in_default
returns-in_default g c = λ _.
    let path = c.args.lines.path.now in
    passing_last (path_lines path (c.args.lines.call ∷ calls_at c.args.lines.later))
    (path_lines path (c.calls.call ∷ calls_at c.calls.later)) (path_line path c.calls.call)
    c.args.block.now c.calls.block c.add_line.new.block (Ok tt)
    (g.S.Sink.written c.args.sink.now) (g.S.Sink.written c.calls.sink) (g.S.Sink.written c.add_line.new.sink)
    (g.S.Sink.failed c.args.sink.now) (g.S.Sink.failed c.calls.sink) (g.S.Sink.failed c.add_line.new.sink)
    c.calls.invariant.lines
    (ap (λ (later : List Call). path_lines path (c.calls.call ∷ later)) c.in_default.ensures.0 ∙ append-nil (path_line path c.calls.call))
    c.in_ok-add_line.ensures

pub calls-preserved : goal.calls-preserved
calls-preserved g c =
    let path = c.args.lines.path.now in
    record {
      lines = passing_more (path_lines path (c.args.lines.call ∷ calls_at c.args.lines.later))
          (path_lines path (c.calls.call ∷ calls_at c.calls.later)) (path_line path c.calls.call)
          (path_lines path (c.in-Some.next ∷ calls_at c.take_first.new.self))
          c.args.block.now c.calls.block c.add_line.new.block
          (g.S.Sink.written c.args.sink.now) (g.S.Sink.written c.calls.sink) (g.S.Sink.written c.add_line.new.sink)
          (g.S.Sink.failed c.args.sink.now) (g.S.Sink.failed c.calls.sink) (g.S.Sink.failed c.add_line.new.sink)
          c.calls.invariant.lines (ap (λ (later : List Call). path_lines path (c.calls.call ∷ later)) c.in-Some.ensures)
          c.in_ok-add_line.ensures;
    }

pub calls-smaller : goal.calls-smaller
calls-smaller g c = omega (arith, ap length c.in-Some.ensures)
