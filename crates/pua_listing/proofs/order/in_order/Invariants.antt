use Rattle.pua_listing.proofs.Common.{◌≡◌, ◌++◌, ◌-◌, map, length, rows_from, spot_cmp}
use Rattle.std.proofs.Common.{IsTrue, reverse}
use Rattle.std.specs.FinMap.{is_sorted}
use Rattle.pua_tree.specs.LentRows.{lent_entry}
use Rattle.pua_listing.specs.Lent.{rows_held}
use Rattle.pua_listing.specs.Order.{order_of}
use Rattle.pua_listing.proofs.order.in_order.Given as goal

-- the rows so far, and those that follow from those that wait
abbrev pub invariant-loop : goal.invariant-loop
invariant-loop l = IsTrue (is_sorted spot_cmp (map lent_entry l.rows)) →
    rows_held l.order.items ++ rows_from (length l.rows - l.counter) (map lent_entry l.rows) (reverse (rows_held l.waiting.items))
    ≡ order_of (map lent_entry l.rows)
