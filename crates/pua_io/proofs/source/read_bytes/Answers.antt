use Rattle.pua_io.proofs.Common.{arith}
use Rattle.std.proofs.lemmas.Grind.{common_steps}
use Rattle.pua_io.proofs.source.read_bytes.Goals as goal

pub returns-then-count-len-clause-unreadable : goal.returns-then-count-len-clause-unreadable
returns-then-count-len-clause-unreadable g c = grind (arith, common_steps)
