use Rattle.pua_policy.proofs.Common.{rules}
use Rattle.pua_policy.proofs.process.Process.unveil_fault.Goals as goal

pub returns-then-self-clause-fault : goal.returns-then-self-clause-fault
returns-then-self-clause-fault c = search rules
