use Rattle.pua_io.proofs.Common.{rules}
use Rattle.pua_io.proofs.sink.StreamSink+BufWriter+W.flush.Goals as goal

pub returns-in-Err-clause-rises : goal.returns-in-Err-clause-rises
returns-in-Err-clause-rises g c = search rules
