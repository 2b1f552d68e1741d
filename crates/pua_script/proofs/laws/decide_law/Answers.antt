use Rattle.pua_script.proofs.Guarding.{changes_are_granted, decisions_are_guarded}
use Rattle.pua_script.proofs.laws.decide_law.Goals as goal

pub returns-clause-guarded : goal.returns-clause-guarded
returns-clause-guarded c = decisions_are_guarded

pub returns-clause-granted : goal.returns-clause-granted
returns-clause-granted c = changes_are_granted
