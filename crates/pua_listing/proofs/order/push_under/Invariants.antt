use Rattle.pua_listing.proofs.Common.{◌≡◌, ◌++◌, map}
use Rattle.pua_tree.specs.LentRows.{lent_entry}
use Rattle.pua_listing.specs.Lent.{rows_held}
use Rattle.pua_listing.proofs.order.push_under.Given as goal

abbrev pub invariant-loop-row : goal.invariant-loop-row
invariant-loop-row l = rows_held l.waiting.items ≡ rows_held l.initial.waiting.items ++ map lent_entry (map (λ row. row.now) l.yielded)
