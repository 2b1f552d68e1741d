use Rattle.std.proofs.Common.{◌≡◌, drop}
use Rattle.std.specs.List.{AllByRecursion}
use Rattle.pua_audit.specs.Reach.{Word}
use Rattle.pua_objects.specs.ListItems.{IsToldIn, items_told}
use Rattle.pua_objects.specs.Objects.{objects}
use Rattle.pua_objects.specs.Lines.{lines_of}
use Rattle.pua_examples.proofs.calling.can_touch.Given as goal

-- the lines are those of the items from here on
abbrev pub invariant-loop-item : goal.invariant-loop-item
invariant-loop-item g l = record {
  told : AllByRecursion (IsToldIn (g.T.FileTree.content l.fn.tree) l.fn.process) (drop l.item-index l.item-items);
  left : (word : Word) × (objects (g.T.FileTree.content l.fn.tree) l.fn.table l.fn.process
      ≡ lines_of (g.T.FileTree.content l.fn.tree) l.fn.table l.fn.process
      (items_told (g.T.FileTree.content l.fn.tree) word (drop l.item-index l.item-items)));
}
