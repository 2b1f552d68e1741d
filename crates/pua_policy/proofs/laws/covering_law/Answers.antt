use Rattle.pua_policy.proofs.NearestVeil.{coverings_hold}
use Rattle.pua_policy.proofs.laws.covering_law.Goals as goal

pub returns : goal.returns
returns c = coverings_hold
