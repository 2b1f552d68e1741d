use Rattle.pua_texts.proofs.Common.{◌+◌, ◌∷◌, [], arith, err_from_is_err_and, spelling}
use Rattle.pua_texts.proofs.Passing.{passing_more, passing_fails, passing_last}
use Rattle.pua_texts.proofs.ObjectLines.{path_left, path_more, path_done}
use Rattle.pua_texts.proofs.list_line.add_rest.Goals as goal

pub returns-in_err-add_name : goal.returns-in_err-add_name
returns-in_err-add_name g c =
    let word = c.args.word.now in
    let i = c.loop-name.name-index in
    let p = err_from_is_err_and c.from_residual.result c.from_residual.ensures.1 in
    rw p.1 (passing_fails (path_left word 0) (path_left word i) (47 ∷ spelling c.name-item.result.now) (path_left word (i + 1))
    c.args.block.now c.loop-name.block [] [] p.0
    (g.S.Sink.written c.args.sink.now) (g.S.Sink.written c.loop-name.sink) (g.S.Sink.written c.add_name.new.sink)
    (g.S.Sink.failed c.args.sink.now) (g.S.Sink.failed c.loop-name.sink) (g.S.Sink.failed c.add_name.new.sink)
    c.loop-name.invariant.path (path_more word c.name-item.result i c.loop-name-test.true c.name-item.is) c.in_err-add_name.ensures)

pub loop-name-preserved : goal.loop-name-preserved
loop-name-preserved g c =
    let word = c.args.word.now in
    let i = c.loop-name.name-index in
    record {
      path = passing_more (path_left word 0) (path_left word i) (47 ∷ spelling c.name-item.result.now) (path_left word (i + 1))
          c.args.block.now c.loop-name.block c.add_name.new.block
          (g.S.Sink.written c.args.sink.now) (g.S.Sink.written c.loop-name.sink) (g.S.Sink.written c.add_name.new.sink)
          (g.S.Sink.failed c.args.sink.now) (g.S.Sink.failed c.loop-name.sink) (g.S.Sink.failed c.add_name.new.sink)
          c.loop-name.invariant.path (path_more word c.name-item.result i c.loop-name-test.true c.name-item.is) c.in_ok-add_name.ensures;
    }

pub returns : goal.returns
returns g c =
    let word = c.args.word.now in
    let i = c.loop-name.name-index in
    passing_last (path_left word 0) (path_left word i) (32 ∷ []) c.args.block.now c.loop-name.block c.add.new.self c.add.result
    (g.S.Sink.written c.args.sink.now) (g.S.Sink.written c.loop-name.sink) (g.S.Sink.written c.add.new.sink)
    (g.S.Sink.failed c.args.sink.now) (g.S.Sink.failed c.loop-name.sink) (g.S.Sink.failed c.add.new.sink)
    c.loop-name.invariant.path (path_done word i (omega (arith, c.loop-name-test.false))) c.add.ensures
