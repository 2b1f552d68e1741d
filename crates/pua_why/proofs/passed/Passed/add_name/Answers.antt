use Rattle.pua_why.proofs.Common.{◌++◌, map, ap, sym, ◌∙◌, Follows, fact_seen, side_seen}
use Rattle.pua_why.proofs.Passing.{name_told}
use Rattle.pua_why.proofs.passed.Passed.add_name.Goals as goal

pub returns-in_ok-add-in-Ok-clause-exact : goal.returns-in_ok-add-in-Ok-clause-exact
returns-in_ok-add-in-Ok-clause-exact g c = λ more.
    let links = c.traced-outcome.new.links in
    let side = side_seen c.args.side in
    let named = ap (λ outcome. record { links = links; outcome = outcome }) (sym c.in-Ok.is) ∙ c.traced-outcome.ensures.exact in
    let begun = c.in_ok-add_links.ensures ∙ (λ i. c.self.view_is i ++ map (Follows side) (c.spots.ensures i)) in
    name_told c.args.self.now (map fact_seen c.add_links.new.told.items) _ side links c.in-Ok.found _ more named begun
    c.in_ok-add-in-Ok.ensures
