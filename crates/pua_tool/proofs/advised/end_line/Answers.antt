use Rattle.pua_tool.proofs.Common.{◌∙◌, ap}
use Rattle.std.proofs.Common.{option_map}
use Rattle.pua_calls.specs.declared.rules.Rules.TheVariants.{Openbsd}
use Rattle.pua_advice.specs.Advice.{advice_of, advice_seen}
use Rattle.pua_tool.specs.declared.fault.ToolFault.TheVariants.{Request}
use Rattle.pua_tool.proofs.Advising.{request_advised, memory_advised}
use Rattle.pua_tool.proofs.advised.end_line.Goals as goal

pub returns-in-Ok : goal.returns-in-Ok
returns-in-Ok g c text script asked =
    request_advised c.tell.result _ _ _ _ text script c.args.blamed (option_map advice_seen c.in-Ok.advice)
    (c.in-Ok.ensures ∙ ap (advice_of Openbsd) asked) c.tell.ensures.status c.tell.ensures.told

pub returns-in-Err : goal.returns-in-Err
returns-in-Err g c text script asked =
    memory_advised c.tell-in-Err.result _ _ _ _ text script (Request c.args.blamed) tt c.tell-in-Err.ensures.status c.tell-in-Err.ensures.told
