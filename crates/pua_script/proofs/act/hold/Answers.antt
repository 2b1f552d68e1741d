use Rattle.pua_script.specs.declared.request.Action.TheVariants.{Hold}
use Rattle.pua_script.proofs.Acting.{acts}
use Rattle.pua_script.proofs.act.hold.Goals as goal

pub returns-clause-exact : goal.returns-clause-exact
returns-clause-exact g c =
    acts c.args.table.now (g.T.FileTree.content c.args.tree.now) c.args.process.now
    (Hold c.args.number c.args.call c.args.path.now) c.decide_hold-granted.result c.decide_hold-granted.ensures
    _ _ c.answer.result c.answer.ensures.exact
