use Rattle.std.proofs.Common.{option_map}
use Rattle.pua_advice.specs.Advice.{advice_seen}
use Rattle.pua_tool.specs.declared.fault.ToolFault.TheVariants.{Script}
use Rattle.pua_tool.proofs.Advising.{script_advised, memory_advised}
use Rattle.pua_tool.proofs.advised.end_script.Goals as goal

pub returns-in-Ok : goal.returns-in-Ok
returns-in-Ok g c text =
    script_advised c.tell.result _ _ _ _ text c.args.script.now c.args.blamed (option_map advice_seen c.in-Ok.advice) c.in-Ok.ensures
    c.tell.ensures.status c.tell.ensures.told

pub returns-in-Err : goal.returns-in-Err
returns-in-Err g c text =
    memory_advised c.tell-in-Err.result _ _ _ _ text c.args.script.now (Script c.args.blamed) tt c.tell-in-Err.ensures.status c.tell-in-Err.ensures.told
