use Rattle.pua_ever.proofs.Common.{◌≡◌, ℕ, [], List, Tree, EverLine, take}
use Rattle.std.proofs.Common.{drop}
use Rattle.std.specs.List.{AllByRecursion}
use Rattle.pua_ever.specs.EverList.{AreEverTold, IsMarked, abouts}
use Rattle.pua_ever.proofs.RowsLast.{Inside}
use Rattle.pua_ever.proofs.lasting_list.inside_alone.Given as goal

abbrev pub invariant-loop-row : goal.invariant-loop-row
invariant-loop-row l = record {
  told : (t : Tree) (root : ℕ) (lines : List EverLine) → AllByRecursion (IsMarked t root) l.rows → AreEverTold t [] l.rows lines [] →
      Inside t root lines (drop l.row-index l.rows) l.inside.items;
  same : abouts l.inside.items ≡ abouts (take l.row-index l.rows);
}
