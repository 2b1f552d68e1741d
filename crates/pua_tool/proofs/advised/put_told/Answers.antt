use Rattle.pua_tool.proofs.Common.{subst, Adds}
use Rattle.std.proofs.Common.{option_map}
use Rattle.pua_io.proofs.ForCallers.{writes_then}
use Rattle.pua_advice.specs.Advice.{advice_seen}
use Rattle.pua_tool.specs.Advised.{advice_line}
use Rattle.pua_tool.specs.FaultTexts.{fault_line}
use Rattle.pua_tool.proofs.advised.put_told.Goals as goal

pub returns : goal.returns
returns g c =
    writes_then (fault_line c.args.fault) (advice_line (option_map advice_seen c.args.advice)) c.put_advice.result
    (g.E.Sink.written c.args.err.now) (g.E.Sink.written c.put_line.new.err) (g.E.Sink.written c.put_advice.new.err)
    (g.E.Sink.failed c.args.err.now) (g.E.Sink.failed c.put_line.new.err) (g.E.Sink.failed c.put_advice.new.err)
    (subst (λ text. Adds text (g.E.Sink.written c.args.err.now) (g.E.Sink.written c.put_line.new.err)) c.line.ensures c.in_ok-put_line.ensures.0)
    c.in_ok-put_line.ensures.1 c.put_advice.ensures
