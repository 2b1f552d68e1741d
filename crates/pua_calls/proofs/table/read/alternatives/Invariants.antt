use Rattle.pua_calls.proofs.Common.{◌≡◌, drop, length, items_view}
use Rattle.std.proofs.Common.{◌++◌, Ok}
use Rattle.pua_tree.specs.Steps.{◌>>=◌}
use Rattle.pua_calls.specs.Tables.{NeedsNoError}
use Rattle.pua_calls.specs.TableTexts.{alternatives_of}
use Rattle.pua_calls.proofs.table.read.alternatives.Given as goal

-- the row has the sets of the items that were read, and those of the others are still to be added
abbrev pub invariant-loop-item : goal.invariant-loop-item
invariant-loop-item l = record {
  added : length l.row.alternatives ≡ l.item-index;
  sets : alternatives_of l.fn.call (items_view l.items) ≡ (alternatives_of l.fn.call (items_view (drop l.item-index l.items)) >>= λ sets. Ok
      (l.row.alternatives ++ sets));
  no_error : NeedsNoError l.row;
}
