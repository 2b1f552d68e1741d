use Rattle.pua_policy.proofs.Common.{rules}
use Rattle.pua_policy.proofs.process.Process.is_veiled.Goals as goal

pub returns : goal.returns
returns c = search rules
