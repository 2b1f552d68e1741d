use Rattle.pua_ever.proofs.Common.{rules}
use Rattle.pua_ever.proofs.refusal.reason.Goals as goal

pub returns-then-eq : goal.returns-then-eq
returns-then-eq c = search rules
