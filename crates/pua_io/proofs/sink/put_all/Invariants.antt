use Rattle.pua_io.proofs.Common.{◌≡◌}
use Rattle.std.proofs.Common.{length}
use Rattle.pua_io.proofs.Putting.{HasPut}
use Rattle.pua_io.proofs.sink.put_all.Given as goal

abbrev pub invariant-loop-rest : goal.invariant-loop-rest
invariant-loop-rest g l = record {
  put : HasPut l.fn.bytes l.rest (g.S.Sink.written l.fn.sink) (g.S.Sink.written l.sink);
  unfailed : g.S.Sink.failed l.sink ≡ g.S.Sink.failed l.fn.sink;
}

abbrev pub decreases-loop-rest : goal.decreases-loop-rest
decreases-loop-rest g l = length l.rest
