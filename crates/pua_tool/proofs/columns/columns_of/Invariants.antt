use Rattle.pua_tool.proofs.Common.{map}
use Rattle.std.proofs.Common.{take}
use Rattle.std.specs.List.{AllByRecursion}
use Rattle.std.specs.Prelude.{string_bytes}
use Rattle.pua_ever.specs.EverList.{IsRowOn}
use Rattle.pua_tool.specs.RowColumns.{AreColumns, done_behind}
use Rattle.pua_tool.proofs.columns.columns_of.Given as goal

-- the columns so far
abbrev pub invariant-loop-row : goal.invariant-loop-row
invariant-loop-row l = record {
  columns : AllByRecursion (IsRowOn (done_behind l.behind).world.tree l.process) l.rows →
      AreColumns l.behind.rules (done_behind l.behind) l.behind.number l.process (take l.row-index l.rows) (map string_bytes l.columns.items);
}
