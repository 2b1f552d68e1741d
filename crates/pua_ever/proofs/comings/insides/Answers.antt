-- what each closure gives is what the definition does
use Rattle.pua_ever.proofs.Common.{rules, tests, items_from_collect, YieldsList-from_slice, YieldsList-from_filter_map}
use Rattle.pua_ever.specs.Comings.{inside}
use Rattle.pua_ever.proofs.Picked.{picked_now}
use Rattle.pua_ever.proofs.comings.insides.Goals as goal

pub returns : goal.returns
returns g c =
    let t = g.T.FileTree.content c.args.tree.now in
    let h = c.args.process.now in
    picked_now (inside t h) c.args.places.now c.collect.result (λ found. found.items)
    (items_from_collect _ c.collect.ensures.ran (YieldsList-from_filter_map _ (λ place. inside t h place.now)
    (YieldsList-from_slice c.args.places.now cc) c.filter_map.ensures.closure (λ x r q k. search (rules, tests))))
