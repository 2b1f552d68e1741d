use Rattle.pua_since.proofs.Common.{◌≡◌, ◌∙◌, ap, map, world_after, WorldState, apply_to, world_of, Answer, facts_of, fact_seen}
use Rattle.pua_since.proofs.chain.chain_text.Goals as goal

pub returns : goal.returns
returns g c told at =
    let s : WorldState = c.args.before.now in
    let asks = c.args.requests.now in
    let ask = c.args.request.now in
    let asked : (record { process = c.process.result; action = c.action.result.now }) ≡ ask =
    λ i. record { process = c.process.ensures.process i; action = c.action.ensures.action i } in
    let facts : map fact_seen c.as_slice-passed.result.now ≡ facts_of s.table (world_after s.table (world_of s) asks) ask =
    ap (map fact_seen) c.as_slice-passed.ensures.value ∙ c.in_ok-passed.ensures ∙
    (λ i. facts_of (at i).table (world_of (at i)) (asked i)) in
    c.in_ok-lines_of.ensures s asks (c.in_ok-dates.ensures.world told)
    (ap (λ (done : Answer × WorldState). done.0) c.in-Ok.ensures.served ∙ (λ i. (apply_to (at i) ask).0)) facts
    (c.in_ok-dates.ensures.dates told facts)
