use Rattle.pua_texts.proofs.Common.{[], List, drop, Tree, ever_lines}
use Rattle.pua_ever.specs.Ever.{EverLine}
use Rattle.pua_ever.specs.EverList.{AreEverTold}
use Rattle.pua_texts.proofs.EverLines.{Going}
use Rattle.pua_texts.proofs.ever_list.ever_lines.Given as goal

abbrev pub invariant-loop-row : goal.invariant-loop-row
invariant-loop-row l = (t : Tree) (told : List EverLine) → AreEverTold t [] l.rows told [] →
    Going t l.lines.items (drop l.row-index l.rows) (ever_lines t told)
