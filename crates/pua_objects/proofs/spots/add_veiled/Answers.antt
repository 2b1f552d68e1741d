use Rattle.pua_objects.proofs.Common.{map, spot_now}
use Rattle.pua_objects.proofs.Gathered.{veiled_more, more_at_names}
use Rattle.pua_objects.proofs.spots.add_veiled.Goals as goal

pub loop-place-preserved : goal.loop-place-preserved
loop-place-preserved c = record {
  places = more_at_names c.args.places.now c.place-item.result c.loop-place.place-index c.loop-place-test.true c.place-item.is
      c.loop-place.invariant.places c.add_slot.ensures.place;
  spots = veiled_more (map spot_now c.args.spots.now.items) _ _ c.args.places.now c.place-item.result c.loop-place.place-index
      c.loop-place-test.true c.place-item.is c.loop-place.invariant.spots c.in_ok-add_slot.ensures.spot;
}
