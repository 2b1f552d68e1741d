use Rattle.pua_policy.proofs.Common.{rules}
use Rattle.pua_policy.proofs.process.Process.own_cover.Goals as goal

pub returns-in-None : goal.returns-in-None
returns-in-None c = search rules
