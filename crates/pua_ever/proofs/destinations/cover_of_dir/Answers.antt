use Rattle.pua_ever.proofs.Common.{refl, sym, ap, subst, ◌∙◌, Whole, Top, FoundFits, cover, covers_descend}
use Rattle.pua_ever.proofs.destinations.cover_of_dir.Goals as goal

pub cover-requires : goal.cover-requires
cover-requires g c = λ k. ((refl, tt), subst (λ t. FoundFits t (Whole c.args.dir Top)) (sym c.new.ensures.tree) c.requires)

pub returns : goal.returns
returns g c =
    let h = c.args.process.now in
    let t = g.T.FileTree.content c.args.tree.now in
    c.cover.ensures.exact ∙ ap (λ u. cover u h (Whole c.args.dir Top)) c.new.ensures.tree ∙
    (covers_descend t h c.known.ensures).directory c.args.dir Top c.requires
