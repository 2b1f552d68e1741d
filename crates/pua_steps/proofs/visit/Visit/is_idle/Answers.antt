use Rattle.pua_steps.proofs.Common.{rules}
use Rattle.pua_steps.proofs.visit.Visit.is_idle.Goals as goal

pub returns-then-self-eq0 : goal.returns-then-self-eq0
returns-then-self-eq0 c = search rules
