use Rattle.pua_calls.proofs.Common.{◌≡◌, sym, subst, map, rules, tests, YieldsList-from_slice, holds}
use Rattle.std.proofs.Common.{IfOk}
use Rattle.std.proofs.lemmas.Iterator.{YieldsList-from_map_by}
use Rattle.std.proofs.lemmas.Iterator.Consumers.{map_from_collect, YieldsList-at, YieldsList-from_filter}
use Rattle.pua_calls.proofs.Keywords.{keywords_of-filter}
use Rattle.pua_calls.proofs.promises.lent_names.Goals as goal

pub returns : goal.returns
returns c =
    let named = keywords_of-filter (λ flag. (flag.name.now, flag.value.0)) c.flags.result.now c.args.set.0 (c.flags.ensures tt) in
    let listed = map_from_collect _ c.collect.ensures.ran
    (YieldsList-from_map_by _ (λ name. name.now) (λ flag. flag.name.now)
    (YieldsList-at c.map.ensures.source (YieldsList-from_filter _ (λ flag. holds c.args.set.0 flag.value.0)
    (YieldsList-at c.filter.ensures.source (YieldsList-from_slice c.flags.result.now cc)) c.filter.ensures.closure
    (λ x b q k. search (rules, tests))))
    c.map.ensures.closure (λ x r q k. search (rules, tests))) in
    subst (λ all. IfOk c.collect.result (λ names. map (λ name. name.now) names.items ≡ all)) (sym named) listed
