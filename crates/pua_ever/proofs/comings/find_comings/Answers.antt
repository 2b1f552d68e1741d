use Rattle.pua_ever.proofs.Common.{◌≡◌, ◌∙◌, ap, filter_map, list_any, map, not, true, ℕ, List, Place, can_empty, can_move, cover_in, has_c}
use Rattle.pua_ever.proofs.Common.{is_dir, nat_cmp, open_covers, opened_dir}
use Rattle.std.specs.BTreeSet.{contains}
use Rattle.std.specs.Borrow.{Bor}
use Rattle.pua_ever.specs.Comings.{GivesWay, around, at_name, inside, moved_from, places_kept}
use Rattle.pua_ever.specs.Destinations.{covers_on}
use Rattle.pua_ever.specs.Ever.{is_device}
use Rattle.pua_ever.proofs.ComingDevices.{passing}
use Rattle.pua_ever.proofs.ComingPlaces.{ways_given}
use Rattle.pua_ever.proofs.Opened.{opened}
use Rattle.pua_ever.proofs.Under.{any_same}
use Rattle.pua_ever.proofs.comings.find_comings.Goals as goal

pub returns : goal.returns
returns g c =
    let t = g.T.FileTree.content c.args.tree.now in
    let h = c.args.process.now in
    let table = c.args.table.now in
    let well = c.known.ensures in
    let kept : (lent : List (Bor Place)) → lent ≡ c.in_ok-places.places.items → map (λ place. place.now) lent ≡ places_kept h =
    λ lent is. ap (map (λ place. place.now)) is ∙ c.in_ok-places.ensures in
    let dirs : c.in_ok-opened.opened.dirs.items ≡ opened t h well =
    c.in_ok-opened.ensures ∙ ap (filter_map (opened_dir h)) (kept c.deref.result.now c.deref.ensures.value) in
    let stays : (dir : ℕ) → is_dir t dir ≡ true → has_c (cover_in t h dir) ≡ true →
    can_empty t h dir ≡ not (contains nat_cmp c.in_ok-found.found.held dir) = c.in_ok-found.ensures.held in
    let gives : GivesWay t h c.in_ok-found.found.held c.in_ok-opened.opened.dirs.items =
    ways_given t well h c.known-2.ensures c.in_ok-found.found.held c.in_ok-opened.opened.dirs.items stays dirs in
    record {
      names = c.in_ok-at_names.ensures ∙ ap (filter_map (at_name t h)) (kept c.deref-2.result.now c.deref-2.ensures.value);
      insides = c.in_ok-insides.ensures ∙ ap (filter_map (inside t h)) (kept c.deref-3.result.now c.deref-3.ensures.value);
      arounds = c.in_ok-arounds.ensures gives well ∙ ap (filter_map (around t h)) (kept c.deref-4.result.now c.deref-4.ensures.value);
      moves = λ on put.
          ap (list_any (is_device on)) (c.in_ok-all_moved_from.ensures ∙ ap (filter_map (moved_from table h)) c.deref-5.ensures.value)
          ∙ passing (can_move table h) on c.in_ok-found.found.dirs.items
          ∙ any_same (can_move table h) (covers_on on c.in_ok-found.found.dirs.items) (open_covers t h on) (c.in_ok-found.ensures.covers.opens on put);
    }
