use Rattle.pua_policy.proofs.PromisesGoAway.{state_never_grows, pledges_narrow}
use Rattle.pua_policy.proofs.laws.promise_laws.Goals as goal

pub returns : goal.returns
returns c = record { held = state_never_grows; allowed = pledges_narrow }
