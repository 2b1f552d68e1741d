use Rattle.std.proofs.Common.{arith}
use Rattle.pua_tight.proofs.start.Start.go_back.Goals as goal

pub returns-in_ok-self-clause-before : goal.returns-in_ok-self-clause-before
returns-in_ok-self-clause-before c = omega (arith, c.in_ok-self.ensures.line)
