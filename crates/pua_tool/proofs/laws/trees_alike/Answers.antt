use Rattle.pua_tool.proofs.Alike.{answers_alike, lines_alike}
use Rattle.pua_tool.proofs.laws.trees_alike.Goals as goal

pub returns : goal.returns
returns g c = record {
  answers = answers_alike (g.S.FileTree.content c.args.first.now) (g.T.FileTree.content c.args.second.now) c.requires;
  lines = lines_alike (g.S.FileTree.content c.args.first.now) (g.T.FileTree.content c.args.second.now) c.requires;
}
