use Rattle.std.proofs.Common.{◌≡◌, false, take}
use Rattle.std.specs.List.{list_any}
use Rattle.pua_how.specs.Outlooks.{row_has}
use Rattle.pua_how.proofs.outlook.some_listed.Given as goal

-- none so far has it
abbrev pub invariant-loop-asked : goal.invariant-loop-asked
invariant-loop-asked g l = record {
  none : list_any (λ asked. list_any (row_has (g.T.FileTree.content l.tree) asked l.call) l.rows) (take l.asked-index l.things) ≡ false;
}
