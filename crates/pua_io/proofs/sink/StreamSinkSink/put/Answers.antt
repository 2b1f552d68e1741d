use Rattle.pua_io.proofs.Common.{rules}
use Rattle.pua_io.proofs.sink.StreamSinkSink.put.Goals as goal

pub returns-in-Ok-clause-adds : goal.returns-in-Ok-clause-adds
returns-in-Ok-clause-adds g c = search rules
