use Rattle.pua_policy.proofs.Common.{rules}
use Rattle.pua_policy.proofs.answer.Refusal.verdict.Goals as goal

pub returns-in-Killed : goal.returns-in-Killed
returns-in-Killed c = search rules
