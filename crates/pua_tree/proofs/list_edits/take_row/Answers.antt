use Rattle.pua_tree.proofs.Common.{Spot, row_entry, passes}
use Rattle.pua_tree.proofs.Content.{spots_total}
use Rattle.pua_tree.proofs.Places.{removed_at}
use Rattle.pua_tree.proofs.list_edits.take_row.Goals as goal

pub returns-clause-rows : goal.returns-clause-rows
returns-clause-rows c =
    let rows = c.args.rows.now.items in
    let spot : Spot = (c.args.dir, c.args.name.now) in
    let found = rw (c.deref.ensures.value, c.unwrap-place.ensures) at c.row_place.ensures.found in
    let here = rw (c.deref.ensures.value, c.unwrap-place.ensures) at c.row_place.ensures.spot in
    rw c.remove.ensures.items (removed_at spots_total row_entry rows spot c.unwrap-place.result (passes _ c.requires.order) found.0 here)
