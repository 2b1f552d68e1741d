use Rattle.pua_ever.proofs.Common.{◌≡◌, ◌∙◌, ap, subst, sym, Comes, same_Some}
use Rattle.pua_ever.specs.Comings.{IsMovedTo, places_on, places_under}
use Rattle.pua_ever.specs.Ever.{Thing}
use Rattle.pua_ever.specs.EverLines.{new_of}
use Rattle.pua_ever.specs.EverList.{IsAboutOn, own_name, subject_at, thing_by}
use Rattle.pua_ever.proofs.ComingRows.{by_standing}
use Rattle.pua_ever.proofs.comings.comes_under.Goals as goal

pub returns-in_ok-own-in-Stands-clause-under : goal.returns-in_ok-own-in-Stands-clause-under
returns-in_ok-own-in-Stands-clause-under g c = λ about are above on is.
    let t = g.T.FileTree.content c.args.tree.now in
    let h = c.args.process.now in
    let table = c.args.table.now in
    let row = c.args.row.now in
    let own = c.in_ok-own-in-Stands.ensures above in
    let moved = subst (λ dir. IsMovedTo t table h dir c.moved_to-to.result) own.1 (c.moved_to-to.ensures t table h are own.0) in
    by_standing t h about c.in-Stands.field-1 c.in-Stands.cover
    (λ (a : Thing). places_under t h c.place_under.result ≡ places_on t table h a)
    (subject_at t (own_name row) c.in-Stands.place)
    (λ subject at standing. c.place_under.ensures subject c.in-Stands.field-1 c.known.ensures moved at standing)
    (subst (IsAboutOn t h (own_name row)) c.in-Stands.is on.0)
    (ap (thing_by t (own_name row)) (sym c.in-Stands.is) ∙ is)

pub returns-in-Freed-clause-under : goal.returns-in-Freed-clause-under
returns-in-Freed-clause-under g c = λ about are above on is.
    let t = g.T.FileTree.content c.args.tree.now in
    let row = c.args.row.now in
    c.freed_under.ensures c.args.table.now about c.known.ensures
    (subst (IsAboutOn t c.args.process.now (own_name row)) c.in-Freed.is on.0)
    (ap (thing_by t (own_name row)) (sym c.in-Freed.is) ∙ is)

pub returns-in-Comes-clause-under : goal.returns-in-Comes-clause-under
returns-in-Comes-clause-under g c = λ about are above on is.
    let t = g.T.FileTree.content c.args.tree.now in
    let h = c.args.process.now in
    c.made_under.ensures t c.args.table.now h are
    ∙ ap (places_on t c.args.table.now h)
    (same_Some (Comes (new_of c.in-Comes.made)) about (ap (thing_by t (own_name c.args.row.now)) (sym c.in-Comes.is) ∙ is))
