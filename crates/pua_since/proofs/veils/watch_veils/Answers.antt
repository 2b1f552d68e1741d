use Rattle.pua_since.proofs.Common.{map, subst, refl, arith, take_all, AreVeilsAt, IsVeilAt, veil_seen}
use Rattle.pua_since.specs.declared.watch.Question.TheVariants as asks
use Rattle.pua_since.proofs.Keeping.{kept_all, kept_twice, zipped_more}
use Rattle.pua_since.proofs.veils.watch_veils.Goals as goal

pub loop-number-preserved : goal.loop-number-preserved
loop-number-preserved g c = record {
  places = λ later kept.
      zipped_more (λ veil place. IsVeilAt later place veil.0 veil.1 c.args.last) veil_seen c.args.veils.now c.loop-number.own.items
      c.push.new.self.items c.loop-number.number-index
      c.loop-number-item.result c.in_ok-place.place c.loop-number-test.true c.loop-number-item.is c.in_ok-push.ensures.items
      (c.loop-number.invariant.places later (kept_twice _ _ later c.add.ensures.kept kept))
      (record { question = asks.Veil c.loop-number-item.result.1; stands = kept _ _ _ _ c.in_ok-place.ensures.place; asks = refl });
  watched = λ left before. c.in_ok-place.ensures.watched left (c.loop-number.invariant.watched left before);
  kept = kept_twice _ _ _ c.loop-number.invariant.kept c.add.ensures.kept;
}

pub returns-clause-places : goal.returns-clause-places
returns-clause-places g c =
    let now = c.loop-number.watches.watches.items in
    let past = c.loop-number-test.false in
    subst (λ veils. AreVeilsAt now c.args.last (map veil_seen veils) c.loop-number.own.items)
    (take_all c.loop-number.number-index c.args.veils.now (omega (arith, past)))
    (c.loop-number.invariant.places now (kept_all now))
