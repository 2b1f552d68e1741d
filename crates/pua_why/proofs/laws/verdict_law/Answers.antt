use Rattle.pua_why.proofs.Decisions.{reasons_give_decisions, reasons_give_verdicts}
use Rattle.pua_why.proofs.laws.verdict_law.Goals as goal

pub returns-clause-decisions : goal.returns-clause-decisions
returns-clause-decisions c = reasons_give_decisions

pub returns-clause-verdicts : goal.returns-clause-verdicts
returns-clause-verdicts c = reasons_give_verdicts
