use Rattle.pua_tree.proofs.Common.{rules, always_returns_same, Spot, spot_cmp, row_entry, ListRow}
use Rattle.pua_tree.proofs.Content.{spots_total, exact_spots}
use Rattle.pua_tree.proofs.Places.{found_place, missing_place, key_place, put_place}
use Rattle.pua_tree.proofs.list.row_place.Goals as goal

pub returns : goal.returns
returns c =
    let spot : Spot = (c.args.dir, c.args.name.now) in
    let bound = c.binary_search_by.ensures.bound in
    let searched = c.binary_search_by.ensures.position (λ (row : ListRow). spot_cmp (row_entry row).0 spot)
    (always_returns_same _ _ _ (λ a r f g. search rules)) in
    record {
      found = found_place spots_total row_entry _ spot _ c.requires bound searched;
      missing = missing_place spots_total row_entry _ spot _ c.requires bound searched;
      spot = key_place spots_total row_entry exact_spots _ spot _ searched;
      place = put_place spots_total row_entry _ spot _ c.requires bound searched;
    }
