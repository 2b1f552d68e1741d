use Rattle.pua_audit.proofs.Common.{◌∙◌, ap, Whole, perms_kept}
use Rattle.pua_policy.specs.Descent.{own_or}
use Rattle.pua_policy.specs.declared.place.Place.TheVariants as place
use Rattle.pua_audit.proofs.Covers.{some_leads, handed_name, handed_self, handed_below}
use Rattle.pua_audit.proofs.table.directories.Directories.handed_down.Goals as goal

pub returns-in_ok-over-in-Named : goal.returns-in_ok-over-in-Named
returns-in_ok-over-in-Named c = λ t fits fit named covered.
    let h = c.args.process.now in
    let i = c.in-Whole in
    let j = c.in-Named in
    c.own_cover.ensures ∙ ap (own_or (perms_kept h (place.Dir i.dir))) (c.in_ok-over-in-Named.ensures t h covered)
    ∙ handed_below t h fits c.args.found.now fit named i.dir j.parent j.name (i.is ∙ ap (Whole i.dir) j.is)

pub returns-in-Dot : goal.returns-in-Dot
returns-in-Dot c =
    let h = c.args.process.now in
    let i = c.in-Whole in
    some_leads (λ left over. λ t fits fit named covered. over t h covered ∙
    handed_self t h fits c.args.found.now fit i.dir i.way i.is) c.cover_in-in-Dot.result c.cover_in-in-Dot.ensures

pub returns-in_ok-over-in-Slot : goal.returns-in_ok-over-in-Slot
returns-in_ok-over-in-Slot c = λ t fits fit named covered.
    let h = c.args.process.now in
    let i = c.in-Slot in
    c.own_cover-in-Slot.ensures ∙ ap (own_or (perms_kept h (place.Slot i.dir i.name))) (c.in_ok-over-in-Slot.ensures t h covered)
    ∙ handed_name t h fits c.args.found.now fit i.dir i.name i.node i.is
