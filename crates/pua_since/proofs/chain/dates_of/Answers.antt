use Rattle.pua_since.proofs.Common.{◌≡◌, ◌∙◌, ap, map, length, [], subst, CallTable, world_after, world_of, reason, fact_seen, date_of, AreFactsAt}
use Rattle.pua_since.proofs.Common.{IsRequestAt, fact_line, AreWatched}
use Rattle.pua_since.proofs.Keeping.{asked_at, facts_kept, kept_twice, request_kept}
use Rattle.pua_since.proofs.Veiled.{request_at}
use Rattle.pua_since.proofs.Unveiled.{facts_at}
use Rattle.pua_since.proofs.chain.dates_of.Goals as goal

pub returns-clause-dates : goal.returns-clause-dates
returns-clause-dates g c told are =
    let table : CallTable = c.args.world.now.table in
    let w = world_of c.args.world.now in
    let s = c.serve_all.new.self in
    let watched : AreWatched table w c.args.requests.now [] s = c.in_ok-serve_all.ensures.watched told
    (c.in_ok-veils.ensures.watched c.args.requests.now (c.in_ok-own.ensures.watched c.args.requests.now
    (c.in_ok-watches.ensures.watched table w told))) in
    let own : IsRequestAt s.watches.items c.in_ok-own.own c.args.request.now (length c.args.requests.now) =
    request_kept c.add.new.self.watches.items s.watches.items c.in_ok-own.own c.args.request.now (length c.args.requests.now)
    (kept_twice c.add.new.self.watches.items c.watch_facts.new.watches.watches.items s.watches.items c.in_ok-veils.ensures.kept
    c.serve_all.ensures.kept)
    (asked_at c.add.new.self.watches.items c.in_ok-own.own c.process-process.result c.action.result c.args.request.now
    (length c.args.requests.now) c.process-process.ensures.process c.action.ensures.action c.in_ok-own.ensures.place) in
    let lines : c.in_ok-fact_lines.field-0.items ≡ map (fact_line s.watches.items) c.as_slice.result.now = c.in_ok-fact_lines.ensures in
    record {
      answer = ap (date_of (reason table (world_after table w c.args.requests.now) c.args.request.now)) c.line.ensures
          ∙ request_at table w c.args.requests.now [] s watched c.in_ok-own.own c.args.request.now own;
      veils = lines ∙ ap (map (fact_line s.watches.items)) c.as_slice.ensures.value
          ∙ facts_at table w c.args.requests.now s watched c.args.request.now (map fact_seen c.args.passed.now) c.in_ok-veils.veils.items
          are
          (facts_kept c.watch_facts.new.watches.watches.items s.watches.items c.args.request.now.process (length c.args.requests.now)
          c.serve_all.ensures.kept (map fact_seen c.args.passed.now) c.in_ok-veils.veils.items
          (subst (λ process. AreFactsAt c.watch_facts.new.watches.watches.items process (length c.args.requests.now)
          (map fact_seen c.args.passed.now) c.in_ok-veils.veils.items) c.process-process.ensures.process c.in_ok-veils.ensures.places));
    }
