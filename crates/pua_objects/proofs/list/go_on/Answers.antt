use Rattle.pua_objects.proofs.Common.{◌∙◌, ◌∷◌, [], ap, arith, length-reverse, map, reverse, spot_now}
use Rattle.std.proofs.lemmas.List.{reverse-append}
use Rattle.pua_objects.specs.Listing.{after_next}
use Rattle.pua_objects.proofs.ListGrows.{leaves, passed_in}
use Rattle.pua_objects.proofs.Ranges.{lent_within}
use Rattle.pua_objects.proofs.list.go_on.Goals as goal

pub returns-in_default-clause-listing : goal.returns-in_default-clause-listing
returns-in_default-clause-listing g c = λ stands are list.
    let t = g.T.FileTree.content c.args.tree.now in
    let p = c.args.process.now in
    let all = map spot_now c.args.spots.now in
    let around = reverse c.args.entered.now.items in
    leaves t c.known.ensures p all are c.args.inner.now around c.args.items.now.items
    (c.in_default.ensures.name are.rise (passed_in t c.known.ensures p all are c.args.inner.now around c.args.items.now.items list)) list

pub returns-clause-listing : goal.returns-clause-listing
returns-clause-listing g c = λ stands are list.
    let t = g.T.FileTree.content c.args.tree.now in
    let p = c.args.process.now in
    let all = map spot_now c.args.spots.now in
    let around = reverse c.args.entered.now.items in
    c.add_entry.ensures.listing around stands are (omega (arith, c.len-depth.ensures, length-reverse c.args.entered.now.items))
    (ap reverse c.in-Ok.ensures.items ∙ reverse-append c.args.entered.now.items (after_next c.args.inner.now ∷ [])) (record {
      within = lent_within c.args.spots.now c.args.inner.now.next c.in-Some.ensures.there;
      names = c.in-Some.ensures.name are.rise (passed_in t c.known.ensures p all are c.args.inner.now around c.args.items.now.items list);
      listing = list;
    })
