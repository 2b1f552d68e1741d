use Rattle.pua_tool.proofs.script.replay_over.Goals as goal

pub returns-clause-done : goal.returns-clause-done
returns-clause-done c = (c.in_ok-script.script, c.in_ok-script.ensures.read, c.in_ok-replay_requests.ensures)
