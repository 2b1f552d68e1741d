use Rattle.pua_ever.proofs.Common.{refl, sym, subst, ◌∙◌, FoundFits, cover}
use Rattle.pua_ever.proofs.Covers.{row_fits}
use Rattle.pua_ever.proofs.destinations.row_cover.Goals as goal

pub cover-requires : goal.cover-requires
cover-requires g c = λ k.
    let t = g.T.FileTree.content c.args.tree.now in (
      (refl, tt),
      subst (λ u. FoundFits u c.found_in-found.result) (sym c.new.ensures.tree)
          (subst (FoundFits t) (sym c.found_in-found.ensures) (row_fits t c.known.ensures (
            c.args.dir,
            c.args.name.now,
          ) c.args.node c.requires)),
    )

pub returns : goal.returns
returns g c = c.cover.ensures.exact ∙ (λ i. cover (c.new.ensures.tree i) c.args.process.now (c.found_in-found.ensures i))
