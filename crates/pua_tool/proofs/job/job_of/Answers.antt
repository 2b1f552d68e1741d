use Rattle.pua_tool.proofs.Common.{rules}
use Rattle.pua_tool.proofs.job.job_of.Goals as goal

pub returns : goal.returns
returns c = search rules
