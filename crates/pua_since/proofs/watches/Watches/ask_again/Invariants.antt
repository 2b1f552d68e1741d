use Rattle.pua_since.proofs.Rounds.{AreAsked}
use Rattle.pua_since.proofs.watches.Watches.ask_again.Given as goal

abbrev pub invariant-loop-watch : goal.invariant-loop-watch
invariant-loop-watch g l = AreAsked l.world l.touched l.line l.watch-index l.fn.self l.watch-items
