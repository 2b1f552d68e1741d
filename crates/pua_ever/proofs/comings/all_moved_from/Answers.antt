-- what the closure gives is what the definition does
use Rattle.pua_ever.proofs.Common.{rules, tests, items_from_collect, YieldsList-from_slice, YieldsList-from_filter_map}
use Rattle.pua_ever.specs.Comings.{moved_from}
use Rattle.pua_ever.proofs.comings.all_moved_from.Goals as goal

pub returns : goal.returns
returns c =
    items_from_collect _ c.collect.ensures.ran (YieldsList-from_filter_map _ (moved_from c.args.table.now c.args.process.now)
    (YieldsList-from_slice c.args.dirs.now cc) c.filter_map.ensures.closure (λ x r q k. search (rules, tests)))
