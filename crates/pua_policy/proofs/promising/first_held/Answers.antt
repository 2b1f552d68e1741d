use Rattle.pua_policy.proofs.Common.{◌∙◌, rules, holds}
use Rattle.std.proofs.Common.{tests}
use Rattle.std.proofs.lemmas.Iterator.{YieldsList-from_slice}
use Rattle.std.proofs.lemmas.Iterator.Search.{find_from_yields_List}
use Rattle.pua_policy.proofs.promising.first_held.Goals as goal

pub returns : goal.returns
returns c =
    c.copied.ensures
    ∙ find_from_yields_List (holds c.args.held) _ _ c.find.result c.find.ensures.ran (YieldsList-from_slice c.args.sets.now cc)
    (λ x b q k. search (rules, tests))
