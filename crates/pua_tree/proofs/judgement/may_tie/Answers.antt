use Rattle.pua_tree.proofs.Common.{rules}
use Rattle.pua_tree.proofs.judgement.may_tie.Goals as goal

pub returns-in-Some-Dir-clause-exact : goal.returns-in-Some-Dir-clause-exact
returns-in-Some-Dir-clause-exact g c = search rules
