use Rattle.pua_objects.proofs.Common.{◌≡◌, ◌++◌, map, ap, sym, subst, ◌∙◌, filter_map, spot_now, veil_spot, AreAtNames, AreInOrder, Rises, spot_cmp}
use Rattle.std.proofs.lemmas.Simd.{map-map}
use Rattle.pua_tree.specs.LentRows.{lent_entry}
use Rattle.pua_objects.specs.Spots.{row_spot}
use Rattle.pua_objects.proofs.Gathered.{at_names}
use Rattle.pua_objects.proofs.Distinct.{rows_rise}
use Rattle.pua_objects.proofs.Entries.{spots_of}
use Rattle.pua_objects.proofs.spots.spots.Goals as goal

pub returns-clause-spots : goal.returns-clause-spots
returns-clause-spots c = λ t well all.
    let vs = c.args.process.now.veils in
    let given = c.args.rows.now in
    let rows : map row_spot given ≡ map (λ row. row.0) t.rows = sym (map-map (λ row. row.0) lent_entry given) ∙
    ap (map (λ row. row.0)) all in
    let veils : map (λ place. place.now) c.deref.result.now ≡ map (λ veil. veil.0) vs = ap (map (λ place. place.now)) c.deref.ensures.value
    ∙ c.in_ok-places.ensures in
    let both : map row_spot given ++ filter_map veil_spot (map (λ place. place.now) c.deref.result.now) ≡ map (λ row. row.0) t.rows
    ++ filter_map veil_spot (map (λ veil. veil.0) vs)
    = (λ i. rows i ++ filter_map veil_spot (veils i)) in
    let spots = map spot_now c.in_ok-distinct_spots.field-0.items in
    spots_of t vs spots (subst (λ given. AreInOrder given spots) both
    (c.in_ok-distinct_spots.ensures.spots (subst (Rises spot_cmp) (sym rows) (rows_rise t.rows well.rows_in_order))))

pub returns-clause-places : goal.returns-clause-places
returns-clause-places c =
    let vs = c.args.process.now.veils in
    let is : map (λ place. place.now) c.deref.result.now ≡ map (λ veil. veil.0) vs =
    ap (map (λ place. place.now)) c.deref.ensures.value ∙ c.in_ok-places.ensures in
    at_names vs (subst AreAtNames is c.in_ok-distinct_spots.ensures.places)
