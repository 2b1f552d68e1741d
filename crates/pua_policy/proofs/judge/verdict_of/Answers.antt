use Rattle.pua_policy.proofs.Common.{◌∙◌, sym, ap}
use Rattle.pua_policy.specs.Verdict.{verdict_of}
use Rattle.pua_policy.proofs.Refusals.{refused_is}
use Rattle.pua_policy.proofs.judge.verdict_of.Goals as goal

pub returns-in-Err-promised_for-clause-exact : goal.returns-in-Err-promised_for-clause-exact
returns-in-Err-promised_for-clause-exact g c =
    c.verdict-in-Err-promised_for.ensures ∙ refused_is _ _ c.in-Err-promised_for.refusal c.in-Err-promised_for.ensures.exact
    ∙ ap (verdict_of (g.P.Probe.tree c.args.probe.now) c.args.table.now c.args.process.now c.args.call) (sym c.in-Err.is)
