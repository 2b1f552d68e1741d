use Rattle.pua_ever.proofs.Common.{◌∙◌, ap, subst, sym, None, option_map, At, Slot, Stands, None≢Some, same_Some}
use Rattle.pua_ever.specs.Comings.{as_list, places_on}
use Rattle.pua_ever.specs.EverList.{IsAboutOn, thing_by}
use Rattle.pua_ever.specs.declared.list.EverAbout.TheVariants.{Freed}
use Rattle.pua_ever.proofs.ComingRows.{row_lives}
use Rattle.pua_ever.proofs.comings.freed_under.Goals as goal

pub returns-in-Some : goal.returns-in-Some
returns-in-Some g c = λ table about well on is.
    let t = g.T.FileTree.content c.args.tree.now in
    let h = c.args.process.now in
    let dir = c.args.dir in
    let name = c.in-Some.name.now in
    let living = row_lives t well dir name
    (subst (λ own. IsAboutOn t h (option_map (λ name. name.now) own) (Freed dir)) c.in-Some.is on) in
    ap as_list (c.over_name.ensures None well living)
    ∙ ap (places_on t table h) (same_Some (Stands (At (Slot dir name None))) about
    (ap (λ own. thing_by t (option_map (λ name. name.now) own) (Freed dir)) (sym c.in-Some.is) ∙ is))

pub returns-in-None : goal.returns-in-None
returns-in-None g c = λ table about well on is.
    absurd (None≢Some about (ap (λ own. thing_by (g.T.FileTree.content c.args.tree.now) (option_map (λ name. name.now) own) (Freed c.args.dir))
    (sym c.in-None.is) ∙ is))
