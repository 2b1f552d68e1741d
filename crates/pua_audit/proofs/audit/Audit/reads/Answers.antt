use Rattle.pua_audit.proofs.Common.{rules}
use Rattle.pua_audit.proofs.audit.Audit.reads.Goals as goal

pub returns : goal.returns
returns c = search rules
