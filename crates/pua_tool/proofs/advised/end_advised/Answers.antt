use Rattle.pua_tool.proofs.Common.{subst, sym, ToolFault}
use Rattle.pua_tool.specs.Ended.{IsAdvisedAs}
use Rattle.pua_tool.proofs.Advising.{quietly_advised}
use Rattle.pua_tool.proofs.advised.end_advised.Goals as goal

pub returns-in-Script : goal.returns-in-Script
returns-in-Script g c =
    subst (λ (fault : ToolFault). IsAdvisedAs c.args.text.now c.args.script.now fault c.end_script.result
    (g.E.Sink.written c.args.err.now) (g.E.Sink.written c.end_script.new.err) (g.E.Sink.failed c.args.err.now)
    (g.E.Sink.failed c.end_script.new.err)) (sym c.in-Script.is) (c.end_script.ensures c.args.text.now)

pub returns-in-Request : goal.returns-in-Request
returns-in-Request g c =
    subst (λ (fault : ToolFault). IsAdvisedAs c.args.text.now c.args.script.now fault c.end_request.result
    (g.E.Sink.written c.args.err.now) (g.E.Sink.written c.end_request.new.err) (g.E.Sink.failed c.args.err.now)
    (g.E.Sink.failed c.end_request.new.err)) (sym c.in-Request.is) (c.end_request.ensures c.args.script.now)

pub returns-in_default : goal.returns-in_default
returns-in_default g c =
    quietly_advised c.tell.result _ _ _ _ c.args.text.now c.args.script.now c.args.fault c.in_default.not-Script c.in_default.not-Request
    c.tell.ensures.status c.tell.ensures.told
