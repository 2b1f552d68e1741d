use Rattle.pua_refused.proofs.Common.{sym, ◌∙◌}
use Rattle.pua_refused.proofs.calls.tables.nine_alternatives_taken.Goals as goal

pub unreachable-requires : goal.unreachable-requires
unreachable-requires c =
    let clash = sym c.in-Ok.ensures.read ∙ c.table_examples.ensures.texts.nine_alternatives in
    cc
