use Rattle.pua_tool.proofs.Common.{subst, sym}
use Rattle.pua_tool.specs.Ended.{IsEndOf, IsEndedAs}
use Rattle.pua_tool.specs.declared.advised.Halt.{Halt}
use Rattle.pua_tool.proofs.FaultsWritten.{put_end, untaken_end, unwritten_end}
use Rattle.pua_tool.proofs.advised.end.Goals as goal

pub returns-in-Untaken : goal.returns-in-Untaken
returns-in-Untaken g c =
    subst (λ (halt : Halt). IsEndOf c.args.command.now halt c.finish.result (g.E.Sink.written c.args.err.now)
    (g.E.Sink.written c.finish.new.err) (g.E.Sink.failed c.args.err.now) (g.E.Sink.failed c.finish.new.err)) (sym c.in-Untaken.is)
    (untaken_end c.args.command.now c.finish.result _ _ _ _ c.in-Untaken.fault c.finish.ensures.status c.finish.ensures.told)

pub returns-in-Put : goal.returns-in-Put
returns-in-Put g c =
    subst (λ (halt : Halt). IsEndOf c.args.command.now halt c.finish-in-Put.result (g.E.Sink.written c.args.err.now)
    (g.E.Sink.written c.finish-in-Put.new.err) (g.E.Sink.failed c.args.err.now) (g.E.Sink.failed c.finish-in-Put.new.err)) (sym c.in-Put.is)
    (put_end c.args.command.now c.finish-in-Put.result _ _ _ _ c.finish-in-Put.ensures.status c.finish-in-Put.ensures.told)

pub returns-in-Unwritten : goal.returns-in-Unwritten
returns-in-Unwritten g c =
    let by_bytes = subst (λ bytes. IsEndedAs c.args.command.now bytes c.in-Unwritten.fault c.end_unwritten.result
    (g.E.Sink.written c.args.err.now) (g.E.Sink.written c.end_unwritten.new.err) (g.E.Sink.failed c.args.err.now)
    (g.E.Sink.failed c.end_unwritten.new.err)) c.as_slice.ensures.value c.end_unwritten.ensures in
    subst (λ (halt : Halt). IsEndOf c.args.command.now halt c.end_unwritten.result (g.E.Sink.written c.args.err.now)
    (g.E.Sink.written c.end_unwritten.new.err) (g.E.Sink.failed c.args.err.now) (g.E.Sink.failed c.end_unwritten.new.err)) (sym c.in-Unwritten.is)
    (unwritten_end c.args.command.now c.end_unwritten.result _ _ _ _ c.in-Unwritten.fault c.in-Unwritten.script by_bytes)
