use Rattle.pua_io.proofs.Common.{rules}
use Rattle.pua_io.proofs.sink.StreamSink.new.Goals as goal

pub returns : goal.returns
returns g c = search rules
