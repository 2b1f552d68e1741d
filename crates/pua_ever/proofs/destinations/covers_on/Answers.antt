-- what the closure gives is what the definition does
use Rattle.pua_ever.proofs.Common.{rules, tests, items_from_collect, YieldsList-from_slice, YieldsList-from_filter_map}
use Rattle.pua_ever.specs.Destinations.{cover_on}
use Rattle.pua_ever.proofs.destinations.covers_on.Goals as goal

pub returns : goal.returns
returns c =
    items_from_collect _ c.collect.ensures.ran (YieldsList-from_filter_map _ (cover_on c.args.on)
    (YieldsList-from_slice c.args.found.now cc) c.filter_map.ensures.closure (λ x r q k. search (rules, tests)))
