use Rattle.std.proofs.Common.{sym, ◌∙◌, arith}
use Rattle.pua_how.specs.Outlooks.{row_has}
use Rattle.pua_how.proofs.Outlooking.{none_in_all, none_more, some_here}
use Rattle.pua_how.proofs.outlook.is_listed.Goals as goal

pub loop-row-preserved : goal.loop-row-preserved
loop-row-preserved g c = record {
  none =
      none_more (row_has (g.T.FileTree.content c.args.tree.now) c.args.asked.now c.args.call) c.args.rows.now c.loop-row.row-index c.row-item.result
      c.loop-row-test.true c.row-item.is c.loop-row.invariant.none (sym c.has_on.ensures ∙ c.if-has_on.false);
}

pub returns-then-has_on : goal.returns-then-has_on
returns-then-has_on g c =
    sym (some_here (row_has (g.T.FileTree.content c.args.tree.now) c.args.asked.now c.args.call) c.args.rows.now c.loop-row.row-index
    c.row-item.result c.loop-row-test.true c.row-item.is (sym c.has_on.ensures ∙ c.if-has_on.true))

pub returns : goal.returns
returns g c =
    sym (none_in_all (row_has (g.T.FileTree.content c.args.tree.now) c.args.asked.now c.args.call) c.args.rows.now c.loop-row.row-index
    (omega (arith, c.loop-row-test.false)) c.loop-row.invariant.none)
