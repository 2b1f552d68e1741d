use Rattle.pua_ever.proofs.Common.{rules}
use Rattle.pua_ever.proofs.destinations.can_give_way.Goals as goal

pub returns-then-not-contains : goal.returns-then-not-contains
returns-then-not-contains g c = search rules
