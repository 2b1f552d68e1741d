use Rattle.pua_steps.proofs.Common.{rules}
use Rattle.pua_steps.proofs.forward.below.Goals as goal

pub returns-clause-exact : goal.returns-clause-exact
returns-clause-exact c = search rules
