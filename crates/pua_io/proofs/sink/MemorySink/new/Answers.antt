use Rattle.pua_io.proofs.Common.{rules}
use Rattle.pua_io.proofs.sink.MemorySink.new.Goals as goal

pub returns : goal.returns
returns c = search rules
