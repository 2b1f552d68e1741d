use Rattle.pua_ever.proofs.Now.{now_within_ever}
use Rattle.pua_ever.proofs.laws.now_law.Goals as goal

pub returns : goal.returns
returns c = now_within_ever
