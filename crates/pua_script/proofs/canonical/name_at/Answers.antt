use Rattle.pua_script.proofs.Common.{rules, length, nat_eq, nat_lt}
use Rattle.std.proofs.Common.{tests}
use Rattle.std.proofs.lemmas.Iterator.Splits.{YieldsList-from_slice_split}
use Rattle.std.proofs.lemmas.Iterator.Consumers.{YieldsList-at, YieldsList-from_filter, nth_from_yields_List}
use Rattle.pua_script.proofs.canonical.name_at.Goals as goal

pub returns : goal.returns
returns c =
    nth_from_yields_List c.nth.result _ c.args.index c.nth.ensures.ran
    (YieldsList-from_filter _ (λ piece. nat_lt 0 (length piece))
    (YieldsList-at c.filter.ensures.source
    (YieldsList-from_slice_split _ (λ b. nat_eq b 47) c.args.path.now (cc) (cc) (cc) (λ x b q k. search (rules, tests))))
    c.filter.ensures.closure (λ x b q k. search (rules, tests)))
