use Rattle.pua_texts.proofs.Common.{[], refl}
use Rattle.pua_texts.proofs.Passing.{passes_put}
use Rattle.pua_texts.proofs.block.Block.add_text.Goals as goal

pub returns : goal.returns
returns g c =
    passes_put c.args.text.now c.args.self.now [] c.put_all.result
    (g.S.Sink.written c.args.sink.now) (g.S.Sink.written c.put.new.sink) (g.S.Sink.written c.put_all.new.sink)
    (g.S.Sink.failed c.args.sink.now) (g.S.Sink.failed c.put.new.sink) (g.S.Sink.failed c.put_all.new.sink)
    c.in_ok-put.ensures.0 c.in_ok-put.ensures.1 refl c.put_all.ensures.whole c.put_all.ensures.unfailed
    c.put_all.ensures.front c.put_all.ensures.failed
