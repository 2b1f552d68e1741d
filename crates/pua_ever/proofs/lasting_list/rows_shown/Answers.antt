use Rattle.pua_ever.proofs.Common.{ever}
use Rattle.std.proofs.lemmas.Result.{err_from_is_err_and}
use Rattle.pua_ever.proofs.RowsLast.{same_rows}
use Rattle.pua_ever.proofs.lasting_list.rows_shown.Goals as goal

pub returns-in_err-rows-clause-refused : goal.returns-in_err-rows-clause-refused
returns-in_err-rows-clause-refused g c =
    let p = err_from_is_err_and c.from_residual.result c.from_residual.ensures.1 in
    rw (p.1, p.2) c.in_err-rows.ensures.refused

pub returns-in-Ok-clause-rows : goal.returns-in-Ok-clause-rows
returns-in-Ok-clause-rows g c =
    let t = g.T.FileTree.content c.args.tree.now in
    c.in-Ok.ensures.told (ever t c.args.table.now c.args.process.now) c.in_ok-rows.ensures.items c.in_ok-rows.ensures.rows

pub returns-in-Ok-clause-items : goal.returns-in-Ok-clause-items
returns-in-Ok-clause-items g c =
    let t = g.T.FileTree.content c.args.tree.now in
    same_rows t c.args.process.now c.in_ok-rows.rows.items c.in-Ok.shown.items c.in-Ok.ensures.same c.in_ok-rows.ensures.items
