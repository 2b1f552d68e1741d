use Rattle.pua_ever.proofs.Common.{rules}
use Rattle.pua_ever.proofs.destinations.held_dir.Goals as goal

pub returns-in-Dir-2 : goal.returns-in-Dir-2
returns-in-Dir-2 g c = search rules
