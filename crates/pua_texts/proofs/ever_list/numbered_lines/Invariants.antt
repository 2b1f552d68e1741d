use Rattle.pua_texts.proofs.Common.{◌≡◌, ◌++◌, drop, length}
use Rattle.pua_texts.specs.EverHowLines.{lines_numbered}
use Rattle.pua_texts.proofs.ever_list.numbered_lines.Given as goal

-- the lines so far, and those of the rows that are left
abbrev pub invariant-loop-row : goal.invariant-loop-row
invariant-loop-row l = record {
  count : length l.lines.items ≡ l.row-index;
  all : l.lines.items ++ lines_numbered l.row-index (drop l.row-index l.rows) ≡ lines_numbered 0 l.rows;
}
