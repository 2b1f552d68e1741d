use Rattle.pua_calls.proofs.Common.{rules}
use Rattle.pua_calls.proofs.perms.Perms.letters.Goals as goal

pub returns-in-true-true-false-false : goal.returns-in-true-true-false-false
returns-in-true-true-false-false c = search rules
