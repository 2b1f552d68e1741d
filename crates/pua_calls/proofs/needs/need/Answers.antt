use Rattle.pua_calls.proofs.Common.{ap, sym, ◌∙◌}
use Rattle.pua_calls.proofs.Rows.{standard_is}
use Rattle.pua_calls.proofs.needs.need.Goals as goal

pub returns-clause-perms : goal.returns-clause-perms
returns-clause-perms c = ap (λ rule. rule.perms) (standard_is c.args.call) ∙ sym c.perms.ensures
