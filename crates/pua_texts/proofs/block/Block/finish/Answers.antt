use Rattle.pua_texts.proofs.Common.{[], Err, subst, PutFault, Passes}
use Rattle.std.specs.Prelude.{Result}
use Rattle.pua_texts.proofs.Passing.{passes_written}
use Rattle.pua_texts.proofs.block.Block.finish.Goals as goal

pub returns-in_default-put : goal.returns-in_default-put
returns-in_default-put g c = λ text a n added.
    passes_written text [] c.args.self.now (Err c.in_default-put.field-0) a (g.S.Sink.written c.args.sink.now)
    (g.S.Sink.written c.put.new.sink) n (g.S.Sink.failed c.args.sink.now) (g.S.Sink.failed c.put.new.sink)
    (subst (λ (r : Result (Unit {0}) PutFault). Passes text r [] c.args.self.now a (g.S.Sink.written c.args.sink.now) n
    (g.S.Sink.failed c.args.sink.now)) c.in-Ok.is added)
    c.in_default-put.ensures
