use Rattle.pua_tool.proofs.Common.{◌∙◌}
use Rattle.pua_tool.specs.declared.fault.ToolFault.TheVariants.{Request}
use Rattle.pua_tool.proofs.Advising.{memory_advised}
use Rattle.pua_tool.proofs.advised.end_request.Goals as goal

pub returns-in-Ok : goal.returns-in-Ok
returns-in-Ok g c script = c.end_line.ensures c.args.text.now script (c.as_slice.ensures.value ∙ c.in-Ok.ensures)

pub returns-in-Err : goal.returns-in-Err
returns-in-Err g c script =
    memory_advised c.tell.result _ _ _ _ c.args.text.now script (Request c.args.blamed) tt c.tell.ensures.status c.tell.ensures.told
