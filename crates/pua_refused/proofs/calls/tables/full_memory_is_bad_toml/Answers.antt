use Rattle.pua_refused.proofs.Common.{sym, ◌∙◌}
use Rattle.pua_refused.proofs.calls.tables.full_memory_is_bad_toml.Goals as goal

pub unreachable-requires : goal.unreachable-requires
unreachable-requires c =
    let fault = c.in-Err-BadToml.field-0-is in
    let read = c.in-Err-BadToml.ensures.refused (λ memory. cc) in
    let example = sym read ∙ c.table_examples.ensures.texts.first_row in
    cc
