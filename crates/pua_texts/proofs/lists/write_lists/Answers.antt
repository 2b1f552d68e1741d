use Rattle.pua_texts.proofs.Common.{List, ℕ, ◌++◌, subst, Tree, Passes}
use Rattle.pua_texts.specs.ListLines.{lists_text}
use Rattle.pua_texts.proofs.lists.write_lists.Goals as goal

pub returns : goal.returns
returns g c =
    let t : Tree = g.T.FileTree.content c.args.tree.now in
    let text : List ℕ = c.args.front.now ++ lists_text t c.args.lists.items in
    c.finish.ensures text (g.S.Sink.written c.args.sink.now) (g.S.Sink.failed c.args.sink.now)
    (subst (λ (b : List ℕ). Passes text c.add_lists-added.result b c.add_lists-added.new.block (g.S.Sink.written c.args.sink.now)
    (g.S.Sink.written c.add_lists-added.new.sink) (g.S.Sink.failed c.args.sink.now) (g.S.Sink.failed c.add_lists-added.new.sink))
    c.in_ok-block.ensures
    (subst (λ (u : Tree). Passes (c.args.front.now ++ lists_text u c.args.lists.items) c.add_lists-added.result c.in_ok-block.block
    c.add_lists-added.new.block (g.S.Sink.written c.args.sink.now) (g.S.Sink.written c.add_lists-added.new.sink)
    (g.S.Sink.failed c.args.sink.now) (g.S.Sink.failed c.add_lists-added.new.sink)) c.in_ok-places.ensures c.add_lists-added.ensures))
