use Rattle.pua_refused.proofs.Common.{sym, ◌∙◌}
use Rattle.pua_refused.proofs.calls.tables.no_alternatives_taken.Goals as goal

pub unreachable-requires : goal.unreachable-requires
unreachable-requires c =
    let clash = sym c.in-Ok.ensures.read ∙ c.table_examples.ensures.texts.no_alternatives in
    cc
