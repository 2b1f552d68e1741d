use Rattle.pua_calls.proofs.Common.{◌∙◌, sym, ap}
use Rattle.pua_calls.specs.TmpTable.{tmp_table}
use Rattle.pua_calls.proofs.TmpTable.{tmp_table_made_by, tmp_table_same}
use Rattle.pua_calls.proofs.table.CallTable.with_tmppath.Goals as goal

pub returns-then-has_openings : goal.returns-then-has_openings
returns-then-has_openings c =
    tmp_table_made_by _ _ _ _ c.self.invariant.each (sym c.has_openings.ensures ∙ c.if-has_openings.true) c.add_tmppath.ensures
    c.add_tmppath-then-has_openings.ensures c.add_tmppath-then-has_openings-2.ensures ∙ ap tmp_table c.self.view_is

pub returns-else-has_openings : goal.returns-else-has_openings
returns-else-has_openings c =
    tmp_table_same _ c.self.invariant.each (sym c.has_openings.ensures ∙ c.if-has_openings.false) ∙ ap tmp_table c.self.view_is
