use Rattle.pua_ever.proofs.Common.{sym, ◌∙◌, cover_in}
use Rattle.pua_tree.specs.Tree.{device}
use Rattle.pua_ever.proofs.Covers.{cover_over}
use Rattle.pua_ever.proofs.destinations.cover_above.Goals as goal

pub returns : goal.returns
returns g c =
    let t = g.T.FileTree.content c.args.tree.now in
    cover_over t (λ d. (device t d, cover_in t c.args.process.now d)) c.known.ensures c.args.dir c.in-Some.above c.cover_in.result (sym c.parent.ensures ∙
    c.in-Some.is) c.cover_in.ensures
