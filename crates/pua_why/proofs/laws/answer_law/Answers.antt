use Rattle.pua_why.proofs.Decisions.{reasons_give_answers}
use Rattle.pua_why.proofs.laws.answer_law.Goals as goal

pub returns : goal.returns
returns c = reasons_give_answers
