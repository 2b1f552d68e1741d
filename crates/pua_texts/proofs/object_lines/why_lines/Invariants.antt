use Rattle.pua_texts.proofs.Common.{◌≡◌, ◌++◌, [], ℕ, drop, ServedScript, world_left}
use Rattle.std.specs.List.{AllByRecursion}
use Rattle.pua_objects.specs.ListItems.{IsToldIn, items_told}
use Rattle.pua_objects.specs.Roots.{IsByRoot}
use Rattle.pua_texts.specs.ListLines.{last_word, lines_text}
use Rattle.pua_texts.specs.WhyLists.{AreColumnsOf}
use Rattle.pua_texts.proofs.ItemLines.{told}
use Rattle.pua_texts.proofs.ListLines.{AreNumbered}
use Rattle.pua_texts.proofs.WhyColumns.{behind}
use Rattle.pua_texts.proofs.object_lines.why_lines.Given as goal

-- the lines so far, and those of the other items, are all lines
abbrev pub invariant-loop-item : goal.invariant-loop-item
invariant-loop-item l = record {
  veils : l.columns.veils ≡ l.fn.columns.veils;
  unveiled : l.columns.unveiled ≡ l.fn.columns.unveiled;
  numbered : AreNumbered l.columns.resting l.lines.items;
  lines : (p : ServedScript) (number : ℕ) → l.table ≡ p.table → IsByRoot l.process l.shown →
      AllByRecursion (IsToldIn (world_left p).tree l.process) l.items → AreColumnsOf p number l.process.veils l.fn.columns →
      lines_text l.columns [] l.lines.items ++ told (world_left p).tree p.table l.process l.shown (behind p number l.process)
      (items_told (world_left p).tree (last_word [] l.lines.items) (drop l.item-index l.items))
      ≡ told (world_left p).tree p.table l.process l.shown (behind p number l.process) (items_told (world_left p).tree [] l.items);
}
