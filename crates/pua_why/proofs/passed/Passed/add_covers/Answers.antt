use Rattle.pua_why.proofs.Common.{◌++◌, ap, sym, subst, ◌∙◌, [], on_ok_weaker, Tree, Old, New, facts_under}
use Rattle.pua_path.specs.Fits.{FoundFits}
use Rattle.pua_why.proofs.Passing.{covers_told}
use Rattle.pua_why.proofs.passed.Passed.add_covers.Goals as goal

pub returns-then-branch : goal.returns-then-branch
returns-then-branch g c =
    let t = g.P.Probe.tree c.args.probe.now in
    let need = c.args.need.now in
    let letters = c.perms.ensures ∙ ap (λ name. name.needs.perms) c.old_name.ensures in
    let letters_new = c.perms-then-branch.ensures ∙ ap (λ name. name.needs.perms) c.new_name.ensures in
    let same = sym c.in_ok-add_cover.ensures.tree in
    on_ok_weaker c.add_last_cover.result (λ so fits fits_new.
    covers_told c.args.self.now c.add_cover.new.self _
    (facts_under New t c.args.process.now c.args.new.now need.new.needs.perms []) c.in_ok-add_cover.field-0
    (λ more. facts_under Old t c.args.process.now c.args.old.now need.old.needs.perms more) c.if-branch.true
    (λ more. c.in_ok-add_cover.ensures.exact fits more ∙
    ap (λ perms. c.args.self.now ++ facts_under Old t c.args.process.now c.args.old.now perms more) letters)
    (so (subst (λ (u : Tree). FoundFits u c.args.new.now) same fits_new)
    ∙ (λ i. c.add_cover.new.self ++ facts_under New (c.in_ok-add_cover.ensures.tree i) c.args.process.now c.args.new.now (letters_new i) [])))
    c.add_last_cover.ensures
