use Rattle.std.proofs.Common.{sym, ◌∙◌, arith, Bool}
use Rattle.std.specs.List.{list_any}
use Rattle.pua_how.specs.Outlooks.{row_has}
use Rattle.pua_how.specs.declared.target.Target.{Target}
use Rattle.pua_how.proofs.Outlooking.{none_in_all, none_more, some_here}
use Rattle.pua_how.proofs.outlook.some_listed.Goals as goal

pub loop-asked-preserved : goal.loop-asked-preserved
loop-asked-preserved g c = record {
  none =
      let has : Target → Bool = λ x. list_any (row_has (g.T.FileTree.content c.args.tree.now) x c.args.call) c.args.rows.now in
      none_more has c.args.things.now c.loop-asked.asked-index c.asked-item.result c.loop-asked-test.true c.asked-item.is
      c.loop-asked.invariant.none (sym c.is_listed.ensures ∙ c.if-is_listed.false);
}

pub returns-then-is_listed : goal.returns-then-is_listed
returns-then-is_listed g c =
    let has : Target → Bool = λ x. list_any (row_has (g.T.FileTree.content c.args.tree.now) x c.args.call) c.args.rows.now in
    sym (some_here has c.args.things.now c.loop-asked.asked-index c.asked-item.result c.loop-asked-test.true c.asked-item.is
    (sym c.is_listed.ensures ∙ c.if-is_listed.true))

pub returns : goal.returns
returns g c =
    let has : Target → Bool = λ x. list_any (row_has (g.T.FileTree.content c.args.tree.now) x c.args.call) c.args.rows.now in
    sym (none_in_all has c.args.things.now c.loop-asked.asked-index (omega (arith, c.loop-asked-test.false)) c.loop-asked.invariant.none)
