use Rattle.pua_policy.proofs.Common.{rules}
use Rattle.pua_policy.proofs.process.narrowed.Goals as goal

pub returns-in-Some-Some : goal.returns-in-Some-Some
returns-in-Some-Some c = search rules
