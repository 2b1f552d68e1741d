use Rattle.std.proofs.Common.{◌≡◌, false, take}
use Rattle.std.specs.List.{list_any}
use Rattle.pua_how.specs.Outlooks.{row_has}
use Rattle.pua_how.proofs.outlook.is_listed.Given as goal

-- none so far has it
abbrev pub invariant-loop-row : goal.invariant-loop-row
invariant-loop-row g l = record {
  none : list_any (row_has (g.T.FileTree.content l.tree) l.asked l.call) (take l.row-index l.rows) ≡ false;
}
