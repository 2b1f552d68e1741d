use Rattle.pua_since.proofs.Common.{length}
use Rattle.pua_since.proofs.Replays.{AreServedSo}
use Rattle.pua_since.proofs.watches.Watches.serve_all.Given as goal

abbrev pub invariant-loop-index : goal.invariant-loop-index
invariant-loop-index g l = AreServedSo l.fn.world l.fn.self l.requests l.answers (length l.yielded) l.world l.self
