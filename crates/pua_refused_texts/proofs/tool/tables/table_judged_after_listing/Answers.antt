use Rattle.std.proofs.Common.{Some, ap, ◌∙◌}
use Rattle.pua_tool.specs.declared.fault.WriteFault.TheVariants.{NoText}
use Rattle.pua_refused_texts.proofs.Served.{bad_table, not_listed}
use Rattle.pua_refused_texts.proofs.tool.tables.table_judged_after_listing.Goals as goal

pub unreachable-requires : goal.unreachable-requires
unreachable-requires c =
    let bad = bad_table _ c.args.tree.now c.args.script.now c.table_examples.ensures.texts.open_bracket in
    not_listed _ _ _ (Some c.in-Ok.sink.bytes) (Some c.run_to.new.sink.bytes) c.in-Ok.sink.failed c.run_to.new.sink.failed
    c.in-Err.ensures.text (c.in-NoText.is ∙ ap NoText c.in-Listing.is) bad
