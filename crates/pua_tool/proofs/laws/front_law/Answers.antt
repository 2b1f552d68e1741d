use Rattle.pua_tool.proofs.FrontLines.{front_is}
use Rattle.pua_tool.proofs.FrontRequests.{front_requests}
use Rattle.pua_tool.proofs.laws.front_law.Goals as goal

pub returns : goal.returns
returns c = record { lines = front_is; requests = front_requests }
