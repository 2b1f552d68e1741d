use Rattle.pua_ever.proofs.Common.{◌∙◌, sym}
use Rattle.pua_tree.proofs.Base.{none}
use Rattle.pua_ever.proofs.ComingPlaces.{name_over}
use Rattle.pua_ever.proofs.comings.over_name.Goals as goal

pub returns : goal.returns
returns g c = λ node well living.
    c.over_dir.ensures living ∙
    name_over (g.T.FileTree.content c.args.tree.now) well c.args.process.now c.args.dir c.args.name.now node living
    (sym c.kept.ensures.state ∙ none c.kept.result (sym c.is_some.ensures ∙ c.if-is_some.false))
