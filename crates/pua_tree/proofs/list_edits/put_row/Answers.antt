use Rattle.pua_tree.proofs.Common.{refl, Spot, row_entry, passes}
use Rattle.pua_tree.proofs.Content.{spots_total}
use Rattle.pua_tree.proofs.Places.{replaced_at, inserted_at}
use Rattle.pua_tree.proofs.list_edits.put_row.Goals as goal

pub returns-in-Ok : goal.returns-in-Ok
returns-in-Ok c =
    let rows = c.args.rows.now.items in
    let spot : Spot = (c.args.row.dir, c.args.row.name) in
    let found = rw c.deref.ensures.value at c.in-Ok.ensures.found in
    let here = rw c.deref.ensures.value at c.in-Ok.ensures.spot in
    replaced_at spots_total row_entry rows spot c.args.row.node c.in-Ok.place c.args.row (passes _ c.requires.order) found.0 here refl

pub returns-in-Err : goal.returns-in-Err
returns-in-Err c =
    let placed = rw c.deref.ensures.value at (c.in-Err.ensures.place c.args.row.node) in
    let items = rw c.unwrap.ensures at c.insert.ensures.items in
    rw (items, inserted_at row_entry c.args.rows.now.items c.in-Err.place c.args.row, placed) refl
