use Rattle.pua_policy.proofs.Common.{rules}
use Rattle.pua_policy.proofs.judge.cover_fault.Goals as goal

pub returns-in-Nothing : goal.returns-in-Nothing
returns-in-Nothing c = search rules
