use Rattle.pua_refused.proofs.Common.{sym, ◌∙◌}
use Rattle.pua_refused.proofs.calls.tables.row_with_further_keys.Goals as goal

pub unreachable-requires : goal.unreachable-requires
unreachable-requires c =
    let clash = sym c.in-Ok.ensures.read ∙ c.table_examples.ensures.texts.third_key in
    cc
