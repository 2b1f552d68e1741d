use Rattle.pua_tree.proofs.SlotsRows.{rows_lent}
use Rattle.pua_tree.proofs.slots.Slots.lent_rows.Goals as goal

pub returns : goal.returns
returns c =
    rows_lent c.args.self.now c.in_ok-rows.rows.items c.sort_unstable.new.self.items c.in_ok-rows.ensures.unique c.in_ok-rows.ensures.rows
    c.sort_unstable.ensures.permutation c.sort_unstable.ensures.sorted
