use Rattle.pua_tool.proofs.Common.{List, ℕ, ◌++◌}
use Rattle.pua_texts.specs.ListLines.{lists_text}
use Rattle.pua_tool.proofs.objects.put_behind.Goals as goal

pub returns : goal.returns
returns g c =
    let text : List ℕ = c.args.front.now ++ lists_text (g.T.FileTree.content c.args.tree.now) c.args.lists.items in
    c.told.ensures text (g.S.Sink.written c.args.sink.now) (g.S.Sink.written c.write_lists.new.sink) (g.S.Sink.failed c.args.sink.now)
    (g.S.Sink.failed c.write_lists.new.sink) c.write_lists.ensures
