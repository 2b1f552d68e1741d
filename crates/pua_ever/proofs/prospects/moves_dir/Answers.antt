use Rattle.pua_ever.proofs.Common.{rules, tests}
use Rattle.pua_ever.proofs.prospects.moves_dir.Goals as goal

pub returns-then-can_move : goal.returns-then-can_move
returns-then-can_move c = search (rules, tests)

pub returns-else-can_move : goal.returns-else-can_move
returns-else-can_move c = search (rules, tests)
