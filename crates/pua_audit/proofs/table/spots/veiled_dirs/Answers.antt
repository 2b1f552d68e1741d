use Rattle.pua_audit.proofs.Common.{◌≢◌, ◌≤◌, List, length, map, subst, arith, take_all, Place, AreApartFrom}
use Rattle.std.specs.Borrow.{Bor}
use Rattle.pua_policy.specs.declared.place.Place.TheVariants.{Slot}
use Rattle.pua_audit.proofs.Spotted.{all_taken}
use Rattle.pua_audit.proofs.table.spots.veiled_dirs.Goals as goal

pub loop-place-preserved : goal.loop-place-preserved
loop-place-preserved c = λ dir name apart.
    let l = c.loop-place in
    let added = c.in_ok-add_veiled.ensures in
    all_taken (λ (other : Place). other ≢ Slot dir name) (λ (place : Bor Place). place.now) c.args.places.now c.place-item.result
    l.place-index c.loop-place-test.true c.place-item.is (l.invariant dir name (added.others dir apart)) (added.here dir name apart)

pub returns : goal.returns
returns c = λ dir name apart.
    let l = c.loop-place in
    let past : length c.args.places.now ≤ l.place-index = omega (arith, c.loop-place-test.false) in
    subst (λ (places : List (Bor Place)). AreApartFrom (Slot dir name) (map (λ place. place.now) places))
    (take_all l.place-index c.args.places.now past) (l.invariant dir name apart)
