use Rattle.pua_path.proofs.Going.{traces_arrive, coming_resolves}
use Rattle.pua_path.proofs.laws.going_law.Goals as goal

pub returns-clause-arrive : goal.returns-clause-arrive
returns-clause-arrive c = traces_arrive

pub returns-clause-resolve : goal.returns-clause-resolve
returns-clause-resolve c = coming_resolves
