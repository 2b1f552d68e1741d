use Rattle.pua_path.proofs.Common.{rules}
use Rattle.pua_path.proofs.resolver.last.Goals as goal

pub returns-in_err-found-clause-exact : goal.returns-in_err-found-clause-exact
returns-in_err-found-clause-exact g c = search rules

pub returns-clause-exact : goal.returns-clause-exact
returns-clause-exact g c = search rules
