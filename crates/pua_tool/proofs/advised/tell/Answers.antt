use Rattle.pua_tool.proofs.advised.tell.Goals as goal

pub returns-clause-told : goal.returns-clause-told
returns-clause-told g c = (c.put_told.result, c.put_told.ensures)
