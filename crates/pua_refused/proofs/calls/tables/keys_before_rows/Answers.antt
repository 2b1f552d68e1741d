use Rattle.pua_refused.proofs.Common.{sym, ◌∙◌}
use Rattle.pua_refused.proofs.calls.tables.keys_before_rows.Goals as goal

pub unreachable-requires : goal.unreachable-requires
unreachable-requires c =
    let fault = c.in-Err-BadKey.field-0-is in
    let read = c.in-Err-BadKey.ensures.refused (λ memory. cc) in
    let example = sym read ∙ c.table_examples.ensures.texts.first_row in
    cc
