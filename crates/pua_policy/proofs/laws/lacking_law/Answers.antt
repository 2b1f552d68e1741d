use Rattle.pua_policy.proofs.Lacking.{lackings_hold, promisings_hold, promisings_answer}
use Rattle.pua_policy.proofs.laws.lacking_law.Goals as goal

pub returns : goal.returns
returns c = record { sets = lackings_hold; promises = promisings_hold; answers = promisings_answer }
