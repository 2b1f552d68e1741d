use Rattle.pua_script.proofs.ForCallers.{others_leave, others_leave_always}
use Rattle.pua_tool.proofs.Futures.{narrowing, narrowing_now, narrowing_as_read}
use Rattle.pua_tool.proofs.laws.narrowing.Goals as goal

pub returns : goal.returns
returns c = record { reach = narrowing; now = narrowing_now; read = narrowing_as_read; others = others_leave; alone = others_leave_always }
