use Rattle.pua_texts.proofs.Common.{[], err_from_is_err_and}
use Rattle.pua_texts.proofs.Passing.{passes_room, passes_unput}
use Rattle.pua_texts.proofs.block.Block.add.Goals as goal

pub returns-in_err-make_room : goal.returns-in_err-make_room
returns-in_err-make_room g c =
    let p = err_from_is_err_and c.from_residual.result c.from_residual.ensures.1 in
    rw p.1 (passes_unput c.args.bytes.now _ p.0 [] _ _ _ _ c.in_err-make_room.ensures.front c.in_err-make_room.ensures.failed)

pub returns : goal.returns
returns g c =
    passes_room c.args.bytes.now c.args.self.now c.make_room.new.self c.push.new.self (g.S.Sink.written c.args.sink.now)
    (g.S.Sink.written c.make_room.new.sink) (g.S.Sink.failed c.args.sink.now) (g.S.Sink.failed c.make_room.new.sink)
    c.in_ok-make_room.ensures.handed c.in_ok-make_room.ensures.unfailed c.push.ensures
