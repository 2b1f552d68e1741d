use Rattle.pua_tool.proofs.Common.{ap, ◌∙◌}
use Rattle.std.proofs.Common.{rules, tests}
use Rattle.std.proofs.lemmas.Iterator.{YieldsList-from_slice}
use Rattle.std.proofs.lemmas.Iterator.Search.{find_from_yields_List}
use Rattle.std.specs.Prelude.{◌||◌, unwrap_or}
use Rattle.pua_calls.specs.Promises.{holds}
use Rattle.pua_tool.proofs.ever_columns.let_by_one.Goals as goal

pub returns : goal.returns
returns c =
    c.unwrap_or.ensures ∙ ap (λ first. unwrap_or first 0) (c.copied-first.ensures
    ∙ find_from_yields_List (λ set. holds c.args.held set || holds c.args.given set) _ _ c.find.result c.find.ensures.ran
    (YieldsList-from_slice c.args.sets.now cc) (λ x b q k. search (rules, tests)))
