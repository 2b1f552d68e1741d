use Rattle.pua_tight.proofs.Tightened.{tightens}
use Rattle.pua_tight.proofs.OneByOne.{tried_one_by_one}
use Rattle.pua_tight.proofs.laws.tight_law.Goals as goal

pub returns-clause-tightens : goal.returns-clause-tightens
returns-clause-tightens c = tightens

pub returns-clause-trials : goal.returns-clause-trials
returns-clause-trials c = tried_one_by_one
