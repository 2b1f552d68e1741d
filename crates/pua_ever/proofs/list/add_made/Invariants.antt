use Rattle.pua_ever.proofs.Common.{Some, List, Tree, CallTable, ProcessState, length, made_left}
use Rattle.std.specs.List.{AllByRecursion}
use Rattle.pua_objects.specs.declared.list.ListItem.{ListItem}
use Rattle.pua_ever.specs.EverList.{AreRowsBut, IsRowOn}
use Rattle.pua_ever.specs.Prospects.{IsProspects}
use Rattle.pua_ever.specs.declared.made.Made.TheVariants as made
use Rattle.pua_ever.proofs.list.add_made.Given as goal

abbrev pub invariant-loop-coming : goal.invariant-loop-coming
invariant-loop-coming l = record {
  told : (t : Tree) (table : CallTable) (h : ProcessState) (items : List ListItem) → IsProspects t table h l.prospects →
      AreRowsBut t table h items l.fn.rows.items (Some made.Dir) → AreRowsBut t table h items l.rows.items l.coming;
  items : (t : Tree) (h : ProcessState) → AllByRecursion (IsRowOn t h) l.fn.rows.items → AllByRecursion (IsRowOn t h) l.rows.items;
}

abbrev pub decreases-loop-coming : goal.decreases-loop-coming
decreases-loop-coming l = length (made_left l.coming)
