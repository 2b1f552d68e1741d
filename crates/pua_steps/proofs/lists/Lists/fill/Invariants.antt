use Rattle.pua_steps.proofs.Common.{AreListsOf}
use Rattle.pua_steps.proofs.lists.Lists.fill.Given as goal

abbrev pub invariant-loop-left : goal.invariant-loop-left
invariant-loop-left l = record { listed : AreListsOf l.steps l.live l.left l.lists }
