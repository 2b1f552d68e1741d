use Rattle.pua_script.specs.declared.request.Action.TheVariants.{Chroot}
use Rattle.pua_script.proofs.Acting.{acts}
use Rattle.pua_script.proofs.act.chroot.Goals as goal

pub returns-clause-exact : goal.returns-clause-exact
returns-clause-exact g c =
    acts c.args.table.now (g.T.FileTree.content c.args.tree.now) c.args.process.now
    (Chroot c.args.path.now) c.decide_chroot-granted.result c.decide_chroot-granted.ensures
    _ _ c.answer.result c.answer.ensures.exact
