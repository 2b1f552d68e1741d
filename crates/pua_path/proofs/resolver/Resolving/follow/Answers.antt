use Rattle.pua_path.proofs.Common.{rules}
use Rattle.pua_path.proofs.resolver.Resolving.follow.Goals as goal

pub returns-clause-parts : goal.returns-clause-parts
returns-clause-parts c = search rules
