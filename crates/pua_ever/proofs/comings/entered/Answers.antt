use Rattle.pua_ever.proofs.ComingPlaces.{parent_lives}
use Rattle.pua_ever.proofs.comings.entered.Goals as goal

pub returns-in-Dir-clause-lives : goal.returns-in-Dir-clause-lives
returns-in-Dir-clause-lives g c = λ well. parent_lives (g.T.FileTree.content c.args.tree.now) well c.in-Dir.dir c.parent.result c.parent.ensures
