use Rattle.std.proofs.Common.{rules}
use Rattle.pua_refused_texts.proofs.Walks.{none_left}
use Rattle.pua_refused_texts.proofs.steps.calls_that_were_taken_come_again.Goals as goal

pub unreachable-requires : goal.unreachable-requires
unreachable-requires c =
    let none = none_left _ _ _ _ _ c.if-take_calls-eq1.true c.in-Ok-begin.ensures.left c.take_calls.ensures.pairs in
    search rules
