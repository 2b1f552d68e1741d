use Rattle.pua_tool.proofs.Common.{sym, subst, CallTable}
use Rattle.pua_ever.specs.LastingList.{IsBoundedExecOf}
use Rattle.pua_how.specs.Outlooks.{IsOutlook}
use Rattle.pua_tool.proofs.how.outlook_of.Goals as goal

pub returns : goal.returns
returns g c =
    let h = c.args.process.now in
    let wide = c.with_tmppath-wide.result in
    subst (λ (table : CallTable). IsOutlook (g.T.FileTree.content c.args.tree.now) table h c.args.things.now c.args.call c.find_outlook.result)
    c.with_tmppath-wide.ensures
    (c.find_outlook.ensures wide h (c.in-Ok.ensures.list (subst (IsBoundedExecOf wide h) (sym c.as_ref.ensures.value) c.in_ok-both.ensures)))
