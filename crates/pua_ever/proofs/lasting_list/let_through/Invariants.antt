use Rattle.pua_ever.proofs.Common.{◌≡◌, [], List, Tree, EverLine, take}
use Rattle.std.proofs.Common.{drop}
use Rattle.pua_ever.specs.EverList.{AreEverTold, abouts}
use Rattle.pua_ever.proofs.RowsLast.{Through}
use Rattle.pua_ever.proofs.lasting_list.let_through.Given as goal

abbrev pub invariant-loop-row : goal.invariant-loop-row
invariant-loop-row l = record {
  told : (t : Tree) (lines : List EverLine) → AreEverTold t [] l.rows lines [] →
      Through t l.passes lines (drop l.row-index l.rows) l.through.items;
  same : abouts l.through.items ≡ abouts (take l.row-index l.rows);
}
