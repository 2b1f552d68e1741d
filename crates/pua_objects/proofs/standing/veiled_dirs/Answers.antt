use Rattle.std.proofs.Common.{rules, tests}
use Rattle.std.proofs.lemmas.Iterator.{items_from_collect, YieldsList-from_slice}
use Rattle.std.proofs.lemmas.Iterator.Consumers.{YieldsList-from_filter_map}
use Rattle.pua_objects.specs.Standing.{slot_dir}
use Rattle.pua_objects.proofs.StandingRows.{picked_now}
use Rattle.pua_objects.proofs.standing.veiled_dirs.Goals as goal

pub returns : goal.returns
returns c =
    picked_now slot_dir c.args.places.now c.collect.result (λ dirs. dirs.items)
    (items_from_collect _ c.collect.ensures.ran (YieldsList-from_filter_map _ (λ place. slot_dir place.now)
    (YieldsList-from_slice c.args.places.now cc) c.filter_map.ensures.closure (λ x r q k. search (rules, tests))))
