use Rattle.pua_io.proofs.Common.{rules}
use Rattle.pua_io.proofs.source.ReadSourceSource.read.Goals as goal

pub returns-in-Ok-clause-reads : goal.returns-in-Ok-clause-reads
returns-in-Ok-clause-reads g c = search rules
