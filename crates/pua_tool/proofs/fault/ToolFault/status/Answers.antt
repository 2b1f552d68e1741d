use Rattle.pua_tool.proofs.Common.{rules}
use Rattle.pua_tool.proofs.fault.ToolFault.status.Goals as goal

pub returns-in-OutOfMemory : goal.returns-in-OutOfMemory
returns-in-OutOfMemory c = search rules
