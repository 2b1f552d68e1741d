use Rattle.pua_ever.proofs.Common.{◌≡◌, ◌∙◌, arith, rules, tests, YieldsList-from_slice}
use Rattle.std.proofs.lemmas.Iterator.Search.{find_from_yields_List}
use Rattle.std.proofs.lemmas.Iterator.Consumers.{YieldsList-at, YieldsList-from_filter, YieldsList-from_chain}
use Rattle.std.specs.Iterator.Adapters.{chain_second}
use Rattle.pua_calls.specs.Calls.{calls, effect_of}
use Rattle.pua_calls.specs.Effects.{makes, removes}
use Rattle.pua_ever.specs.Refusals.{lacks_c}
use Rattle.pua_ever.proofs.refusal.first_without_c.Goals as goal

pub returns : goal.returns
returns c =
    let second : chain_second c.chain.result ≡ c.filter-making.result = grind (arith, c.chain.ensures.second) in
    c.copied.ensures
    ∙ find_from_yields_List (lacks_c c.args.table.now) _ _ c.find.result c.find.ensures.ran
    (YieldsList-from_chain
    (YieldsList-at c.chain.ensures.first (YieldsList-from_filter _ (λ call. removes (effect_of call))
    (YieldsList-at c.filter-removing.ensures.source (YieldsList-from_slice calls cc)) c.filter-removing.ensures.closure
    (λ x b q k. search (rules, tests))))
    (YieldsList-at second (YieldsList-from_filter _ (λ call. makes (effect_of call))
    (YieldsList-at c.filter-making.ensures.source (YieldsList-from_slice calls cc)) c.filter-making.ensures.closure
    (λ x b q k. search (rules, tests)))) c.chain.ensures.first_done c.chain.ensures.second_done) (λ x b q k. search (rules, tests))
