use Rattle.pua_since.proofs.Common.{map, subst, arith, take_all, fact_seen, AreFactsAt, IsFactAt, veil_told}
use Rattle.pua_since.proofs.Keeping.{fact_kept, kept_all, kept_twice, zipped_more}
use Rattle.pua_since.proofs.chain.watch_facts.Goals as goal

pub loop-fact-preserved : goal.loop-fact-preserved
loop-fact-preserved g c = record {
  places = λ later kept.
      zipped_more (λ fact place. IsFactAt later c.args.process c.args.last (veil_told fact) place) fact_seen c.args.passed.now
      c.loop-fact.veils.items c.push.new.self.items c.loop-fact.fact-index
      c.fact-item.result c.in_ok-place.place c.loop-fact-test.true c.fact-item.is c.in_ok-push.ensures.items
      (c.loop-fact.invariant.places later (kept_twice _ _ later c.in_ok-place.ensures.kept kept))
      (fact_kept _ later c.args.process c.args.last (veil_told (fact_seen c.fact-item.result)) _ kept c.in_ok-place.ensures.place);
  watched = λ left before. c.in_ok-place.ensures.watched left (c.loop-fact.invariant.watched left before);
  kept = kept_twice _ _ _ c.loop-fact.invariant.kept c.in_ok-place.ensures.kept;
}

pub returns-clause-places : goal.returns-clause-places
returns-clause-places g c =
    let now = c.loop-fact.watches.watches.items in
    let past = c.loop-fact-test.false in
    subst (λ facts. AreFactsAt now c.args.process c.args.last (map fact_seen facts) c.loop-fact.veils.items)
    (take_all c.loop-fact.fact-index c.args.passed.now (omega (arith, past)))
    (c.loop-fact.invariant.places now (kept_all now))
