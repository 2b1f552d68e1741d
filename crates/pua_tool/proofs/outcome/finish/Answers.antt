use Rattle.pua_tool.proofs.outcome.finish.Goals as goal

pub returns-in-Err-clause-told : goal.returns-in-Err-clause-told
returns-in-Err-clause-told g c = rw c.in-Err.is (c.tell.result, c.tell.ensures)
