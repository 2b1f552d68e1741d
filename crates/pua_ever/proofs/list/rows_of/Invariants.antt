use Rattle.pua_ever.proofs.Common.{[], take, Tree, WellFormed, EditsNeedC}
use Rattle.std.proofs.Common.{drop}
use Rattle.std.specs.List.{AllByRecursion}
use Rattle.pua_objects.specs.ListItems.{AreNear, IsToldIn}
use Rattle.pua_ever.specs.Ever.{kept_on}
use Rattle.pua_ever.specs.Destinations.{IsOnDevice}
use Rattle.pua_ever.specs.EverList.{AreRowsSoFar, IsRowOn}
use Rattle.pua_ever.specs.Movable.{IsMovable}
use Rattle.pua_ever.specs.Prospects.{IsProspects}
use Rattle.pua_ever.proofs.list.rows_of.Given as goal

abbrev pub invariant-loop-item : goal.invariant-loop-item
invariant-loop-item g l = record {
  told : WellFormed (g.T.FileTree.content l.tree) → EditsNeedC l.table →
      IsProspects (g.T.FileTree.content l.tree) l.table l.process l.prospects →
      AllByRecursion (IsToldIn (g.T.FileTree.content l.tree) l.process) l.items → AreNear [] l.items →
      AreRowsSoFar (g.T.FileTree.content l.tree) l.table l.process l.items (take l.item-index l.items) (drop l.item-index l.items) l.rows.items;
  items : (t : Tree) → WellFormed t → AllByRecursion (IsToldIn t l.process) l.items → AllByRecursion (IsRowOn t l.process) l.rows.items;
  above : AllByRecursion (IsOnDevice (g.T.FileTree.content l.tree) l.process) l.above.items;
  movable : IsProspects (g.T.FileTree.content l.tree) l.table l.process l.prospects →
      AllByRecursion (IsToldIn (g.T.FileTree.content l.tree) l.process) l.items →
      IsMovable (g.T.FileTree.content l.tree) l.table l.process (kept_on (g.T.FileTree.content l.tree) l.process l.device) l.movable;
}
