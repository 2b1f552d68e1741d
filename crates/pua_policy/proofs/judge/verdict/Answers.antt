use Rattle.pua_policy.proofs.Common.{◌∙◌}
use Rattle.pua_policy.proofs.Refusals.{refused_is}
use Rattle.pua_policy.proofs.judge.verdict.Goals as goal

pub returns-in-Err-clause-exact : goal.returns-in-Err-clause-exact
returns-in-Err-clause-exact g c = c.verdict.ensures ∙ refused_is _ _ c.in-Err.refusal c.in-Err.ensures.exact
