use Rattle.pua_policy.proofs.Descending.{covers_descend}
use Rattle.pua_policy.proofs.laws.descent_law.Goals as goal

pub returns : goal.returns
returns c = covers_descend
