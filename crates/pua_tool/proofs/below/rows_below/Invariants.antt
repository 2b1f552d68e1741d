use Rattle.pua_tool.proofs.Common.{◌≡◌, ◌++◌, []}
use Rattle.std.proofs.Common.{drop}
use Rattle.pua_tool.specs.RowsBelow.{rows_below}
use Rattle.pua_tool.proofs.below.rows_below.Given as goal

-- the rows so far, and those that are left
abbrev pub invariant-loop-row : goal.invariant-loop-row
invariant-loop-row l = record {
  so_far : l.kept.items ++ rows_below l.path l.word.items (drop l.row-index l.rows) ≡ rows_below l.path [] l.rows;
}
