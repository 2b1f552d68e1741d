use Rattle.pua_calls.proofs.Common.{rules}
use Rattle.pua_calls.proofs.perms.letter.Goals as goal

pub returns-in_default : goal.returns-in_default
returns-in_default c = search rules
