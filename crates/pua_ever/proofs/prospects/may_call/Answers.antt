use Rattle.pua_ever.proofs.Common.{rules, tests, YieldsList-from_slice, rule_of, may_any, is_yes}
use Rattle.std.proofs.lemmas.Iterator.Search.{any_from_yields_List}
use Rattle.std.proofs.lemmas.Iterator.Consumers.{YieldsList-at, YieldsList-from_filter}
use Rattle.pua_calls.specs.Calls.{calls}
use Rattle.pua_script.specs.Confinement.{changes_names}
use Rattle.pua_ever.proofs.prospects.may_call.Goals as goal

pub returns : goal.returns
returns c =
    any_from_yields_List (λ edit. is_yes (may_any c.args.process.now (rule_of c.args.table.now edit).alternatives)) _ _ _ c.any.ensures.ran
    (YieldsList-from_filter _ changes_names (YieldsList-at c.filter.ensures.source (YieldsList-from_slice calls cc)) c.filter.ensures.closure
    (λ x b q k. search (rules, tests))) (λ x b q k. search (rules, tests))
