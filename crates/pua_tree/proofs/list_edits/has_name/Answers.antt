use Rattle.pua_tree.proofs.Common.{◌==◌, rules, tests, ListRow}
use Rattle.std.proofs.lemmas.Iterator.{YieldsList-from_slice}
use Rattle.std.proofs.lemmas.Iterator.Search.{any_from_yields_List}
use Rattle.pua_tree.proofs.list_edits.has_name.Goals as goal

pub returns : goal.returns
returns c =
    any_from_yields_List (λ (row : ListRow). row.node == c.args.node) _ _ _ c.any.ensures.ran (YieldsList-from_slice c.args.rows.now cc)
    (λ x b q k. search (rules, tests))
