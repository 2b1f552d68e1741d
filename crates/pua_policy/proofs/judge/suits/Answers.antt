use Rattle.pua_policy.proofs.Common.{◌∙◌}
use Rattle.pua_policy.proofs.Suiting.{suits_alike}
use Rattle.pua_policy.proofs.judge.suits.Goals as goal

pub returns : goal.returns
returns c = λ whose t judged seen. c.suits_by_standard.ensures t judged seen ∙ suits_alike whose t c.args.call judged
