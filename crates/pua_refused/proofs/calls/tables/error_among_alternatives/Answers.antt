use Rattle.pua_refused.proofs.Common.{sym, ◌∙◌}
use Rattle.pua_refused.proofs.calls.tables.error_among_alternatives.Goals as goal

pub unreachable-requires : goal.unreachable-requires
unreachable-requires c =
    let clash = sym c.in-Ok.ensures.read ∙ c.table_examples.ensures.texts.error_promise in
    cc
