use Rattle.pua_ever.proofs.Common.{rules, tests, YieldsList-from_slice, has}
use Rattle.std.proofs.lemmas.Iterator.Search.{any_from_yields_List}
use Rattle.std.proofs.lemmas.Iterator.Consumers.{YieldsList-at, YieldsList-from_filter}
use Rattle.pua_calls.specs.Calls.{calls}
use Rattle.pua_script.specs.Decide.{made_by}
use Rattle.pua_ever.specs.Ever.{is_some_file}
use Rattle.pua_ever.proofs.made.makes_file.Goals as goal

pub returns : goal.returns
returns c =
    any_from_yields_List (has c.args.calls) _ _ _ c.any.ensures.ran
    (YieldsList-from_filter _ (λ call. is_some_file (made_by call))
    (YieldsList-at c.filter.ensures.source (YieldsList-from_slice calls cc)) c.filter.ensures.closure (λ x b q k. search (rules, tests)))
    (λ x b q k. search (rules, tests))
