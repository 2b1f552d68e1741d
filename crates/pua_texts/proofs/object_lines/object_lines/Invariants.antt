use Rattle.pua_texts.proofs.Common.{◌≡◌, ◌∷◌, ◌++◌, [], drop, Tree}
use Rattle.std.specs.List.{AllByRecursion}
use Rattle.pua_texts.specs.EndingsState.{plain}
use Rattle.pua_objects.specs.ListItems.{IsToldIn, items_told}
use Rattle.pua_objects.specs.Roots.{IsByRoot}
use Rattle.pua_texts.specs.ListLines.{last_word, lines_text}
use Rattle.pua_texts.proofs.ItemLines.{told}
use Rattle.pua_texts.proofs.object_lines.object_lines.Given as goal

-- the lines so far, and those of the other items, are all lines
abbrev pub invariant-loop-item : goal.invariant-loop-item
invariant-loop-item l = (t : Tree) → IsByRoot l.process l.shown → AllByRecursion (IsToldIn t l.process) l.items →
    lines_text plain [] l.lines.items ++ told t l.table l.process l.shown (λ line. 10 ∷ []) (items_told t (last_word [] l.lines.items)
    (drop l.item-index l.items)) ≡ told t l.table l.process l.shown (λ line. 10 ∷ []) (items_told t [] l.items)
