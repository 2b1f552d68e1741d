use Rattle.pua_ever.proofs.Common.{rules}
use Rattle.pua_ever.proofs.destinations.entrance.Goals as goal

pub returns-in-Slot : goal.returns-in-Slot
returns-in-Slot g c = search rules

pub returns-in-Dir : goal.returns-in-Dir
returns-in-Dir g c = search rules
