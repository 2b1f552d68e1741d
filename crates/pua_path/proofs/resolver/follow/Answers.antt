use Rattle.pua_path.proofs.Common.{rules}
use Rattle.pua_path.proofs.resolver.follow.Goals as goal

pub returns-clause-exact : goal.returns-clause-exact
returns-clause-exact g c = search rules
