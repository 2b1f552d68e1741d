use Rattle.pua_tool.proofs.Common.{◌≡◌, ℕ, map, ProcessState}
use Rattle.std.proofs.Common.{take}
use Rattle.std.specs.List.{AllByRecursion}
use Rattle.std.specs.Prelude.{string_bytes}
use Rattle.pua_calls.specs.TmpTable.{tmp_table}
use Rattle.pua_ever.specs.Destinations.{IsOnDevice}
use Rattle.pua_ever.specs.EverList.{IsRowOn}
use Rattle.pua_ever.specs.declared.lasting_list.ExecBound.{ExecBound}
use Rattle.pua_texts.specs.WhyLines.{ServedScript, world_left}
use Rattle.pua_tool.specs.EverColumns.{AreReasons, AreTexts}
use Rattle.pua_tool.proofs.ever_columns.columns_of.Given as goal

-- the columns so far
abbrev pub invariant-loop-row : goal.invariant-loop-row
invariant-loop-row g l = record {
  above : AllByRecursion (IsOnDevice (g.T.FileTree.content l.tree) l.holder) l.above.items;
  columns : (p : ServedScript) (number : ℕ) (h : ProcessState) (execs : ExecBound) →
      g.T.FileTree.content l.tree ≡ (world_left p).tree → l.table ≡ tmp_table p.table → AreReasons p number h l.holder execs l.reasons →
      AllByRecursion (IsRowOn (world_left p).tree l.holder) l.rows →
      AreTexts p number h l.holder execs (take l.row-index l.rows) (map string_bytes l.columns.items);
}
