use Rattle.pua_ever.proofs.Common.{sym, ◌∙◌}
use Rattle.pua_ever.proofs.Refused.{unrefused_table, unrefused_process}
use Rattle.pua_ever.proofs.refusal.why_refused.Goals as goal

pub returns-clause-none : goal.returns-clause-none
returns-clause-none c = λ none. unrefused_table c.args.table.now c.args.process.now (sym c.reason.ensures ∙ none)

pub returns-clause-confined : goal.returns-clause-confined
returns-clause-confined c = λ none. unrefused_process c.args.table.now c.args.process.now (sym c.reason.ensures ∙ none)
