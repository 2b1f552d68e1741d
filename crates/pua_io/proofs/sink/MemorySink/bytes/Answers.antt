use Rattle.pua_io.proofs.Common.{rules}
use Rattle.pua_io.proofs.sink.MemorySink.bytes.Goals as goal

pub returns-clause-bytes : goal.returns-clause-bytes
returns-clause-bytes c = search rules
