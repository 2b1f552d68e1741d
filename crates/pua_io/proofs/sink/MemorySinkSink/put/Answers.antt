use Rattle.pua_io.proofs.Common.{rules}
use Rattle.pua_io.proofs.sink.MemorySinkSink.put.Goals as goal

pub returns-then-not-is_empty-clause-rises : goal.returns-then-not-is_empty-clause-rises
returns-then-not-is_empty-clause-rises c = search rules
