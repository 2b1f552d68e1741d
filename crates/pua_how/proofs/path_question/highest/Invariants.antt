use Rattle.std.proofs.Common.{◌≤◌, map, take}
use Rattle.std.specs.List.{AllByRecursion}
use Rattle.pua_tree.specs.LentRows.{lent_entry}
use Rattle.pua_tree.specs.Tree.{Spot}
use Rattle.pua_how.proofs.path_question.highest.Given as goal

-- no number so far is above it
abbrev pub invariant-loop-row : goal.invariant-loop-row
invariant-loop-row l = record {
  highest : AllByRecursion (λ (row : Spot × _). row.1 ≤ l.last) (map lent_entry (take l.row-index l.rows));
}
