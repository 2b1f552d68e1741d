use Rattle.pua_refused.proofs.Common.{sym, ◌∙◌}
use Rattle.pua_refused.proofs.calls.tables.veil_before_promises.Goals as goal

pub unreachable-requires : goal.unreachable-requires
unreachable-requires c =
    let fault = c.in-Err-BadVeil.field-0-is in
    let read = c.in-Err-BadVeil.ensures.refused (λ memory. cc) in
    let example = sym read ∙ c.table_examples.ensures.texts.promises_before_veil in
    cc
