use Rattle.pua_objects.proofs.Common.{map, arith, length-map, ◌≡◌, ◌++◌, ◌∙◌, ap, rules, filter_map, spot_now, veil_spot}
use Rattle.std.proofs.Common.{tests}
use Rattle.std.proofs.lemmas.Iterator.{YieldsList-from_slice, YieldsList-from_map_by}
use Rattle.std.proofs.lemmas.Iterator.Consumers.{map_from_collect}
use Rattle.std.proofs.lemmas.Result.{IfOk-at_ok}
use Rattle.pua_objects.specs.Spots.{row_spot}
use Rattle.pua_objects.proofs.Distinct.{alone, distinct, spots_tie}
use Rattle.pua_objects.proofs.spots.distinct_spots.Goals as goal

pub returns-clause-spots : goal.returns-clause-spots
returns-clause-spots c = λ rises.
    let collected : map spot_now c.in_ok-spots.spots.items ≡ map row_spot c.args.rows.now =
    IfOk-at_ok _ c.in_ok-spots.was
    (map_from_collect _ c.collect.ensures.ran (YieldsList-from_map_by _ spot_now row_spot (YieldsList-from_slice c.args.rows.now cc)
    c.map.ensures.closure (λ x r q k. search (rules, tests)))) in
    let veiled = filter_map veil_spot (map (λ place. place.now) c.args.places.now) in
    distinct _ (λ x y. spots_tie x.0 y.0 x.1.now y.1.now) (map row_spot c.args.rows.now ++ veiled) c.add_veiled.new.spots.items
    c.sort.new.self.items c.dedup.new.self.items
    (c.in_ok-add_veiled.ensures.spots ∙ ap (λ rows. rows ++ veiled) collected) c.in_ok-sort.ensures.permutation c.in_ok-sort.ensures.sorted
    c.dedup.ensures.filtered

pub returns-then-len-rows-clause-spots : goal.returns-then-len-rows-clause-spots
returns-then-len-rows-clause-spots c = λ rises.
    let collected : map spot_now c.in_ok-spots.spots.items ≡ map row_spot c.args.rows.now =
    IfOk-at_ok _ c.in_ok-spots.was
    (map_from_collect _ c.collect.ensures.ran (YieldsList-from_map_by _ spot_now row_spot (YieldsList-from_slice c.args.rows.now cc)
    c.map.ensures.closure (λ x r q k. search (rules, tests)))) in
    let veiled = filter_map veil_spot (map (λ place. place.now) c.args.places.now) in
    alone (map row_spot c.args.rows.now) veiled (map spot_now c.add_veiled.new.spots.items) rises
    (c.in_ok-add_veiled.ensures.spots ∙ ap (λ rows. rows ++ veiled) collected)
    (omega (arith, c.len.ensures, c.if-len-rows.true, length-map c.add_veiled.new.spots.items spot_now, length-map c.args.rows.now row_spot))
