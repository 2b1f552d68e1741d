-- what the closure gives is what the definition does
use Rattle.pua_ever.proofs.Common.{rules, tests, items_from_collect, YieldsList-from_slice, YieldsList-from_filter_map}
use Rattle.pua_ever.specs.Comings.{device_at}
use Rattle.pua_ever.proofs.comings.devices_at.Goals as goal

pub returns : goal.returns
returns c =
    items_from_collect _ c.collect.ensures.ran (YieldsList-from_filter_map _ (device_at c.args.at.now)
    (YieldsList-from_slice c.args.found.now cc) c.filter_map.ensures.closure (λ x r q k. search (rules, tests)))
