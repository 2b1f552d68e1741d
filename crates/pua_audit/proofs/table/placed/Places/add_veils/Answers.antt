use Rattle.pua_audit.proofs.Common.{◌≢◌, ◌≤◌, List, [], length, map, get_or, subst, arith, take_all, Place, AreApartFrom}
use Rattle.std.specs.Borrow.{Bor}
use Rattle.pua_policy.specs.declared.place.Place.TheVariants.{Slot}
use Rattle.pua_audit.proofs.Spotted.{all_taken}
use Rattle.pua_audit.proofs.table.placed.Places.add_veils.Goals as goal

pub loop-place-preserved : goal.loop-place-preserved
loop-place-preserved c =
    let l = c.loop-place in
    let added = c.in_ok-add_veil.ensures in
    record {
      within = λ low. added.within (l.invariant.within low);
      places = λ dir letter low unmarked.
          all_taken (λ (other : Place). other ≢ Slot dir (get_or c.args.self.now letter []))
          (λ (place : Bor Place). place.now) c.args.places.now c.place-item.result l.place-index c.loop-place-test.true c.place-item.is
          (l.invariant.places dir letter low (added.others dir letter unmarked)) (added.here dir letter low unmarked);
      others = λ dir letter unmarked. l.invariant.others dir letter (added.others dir letter unmarked);
    }

pub returns-clause-places : goal.returns-clause-places
returns-clause-places c = λ dir letter low unmarked.
    let l = c.loop-place in
    let past : length c.args.places.now ≤ l.place-index = omega (arith, c.loop-place-test.false) in
    subst (λ (places : List (Bor Place)). AreApartFrom (Slot dir (get_or c.args.self.now letter []))
    (map (λ place. place.now) places)) (take_all l.place-index c.args.places.now past) (l.invariant.places dir letter low unmarked)
