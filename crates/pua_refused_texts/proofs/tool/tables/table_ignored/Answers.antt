use Rattle.std.proofs.Common.{Some, sym, ◌∙◌}
use Rattle.pua_refused_texts.proofs.Served.{bad_table, not_served}
use Rattle.pua_refused_texts.proofs.tool.tables.table_ignored.Goals as goal

pub unreachable-requires : goal.unreachable-requires
unreachable-requires c =
    let bad = bad_table _ c.args.tree.now c.args.script.now c.table_examples.ensures.texts.open_bracket in
    not_served _ _ (Some c.in-Ok.sink.bytes) (Some c.run_to.new.sink.bytes) c.in-Ok.sink.failed
    c.run_to.new.sink.failed c.run_to.ensures.text
    (sym c.is_ok.ensures.value ∙ c.if-is_ok.true) bad
