use Rattle.pua_texts.proofs.Common.{rules, ◌==◌, ◌∙◌}
use Rattle.std.proofs.Common.{tests}
use Rattle.std.proofs.lemmas.Iterator.{YieldsList-from_slice}
use Rattle.std.proofs.lemmas.Iterator.Search.{any_from_yields_List}
use Rattle.pua_tree.specs.declared.tree.LentRow.{LentRow}
use Rattle.pua_texts.proofs.FileLines.{any_lent}
use Rattle.pua_texts.proofs.file_lines.has_name.Goals as goal

pub returns : goal.returns
returns c =
    any_from_yields_List (λ (row : LentRow). row.node == c.args.node) _ _ _ c.any.ensures.ran (YieldsList-from_slice c.args.rows.now cc)
    (λ x b q k. search (rules, tests))
    ∙ any_lent c.args.node c.args.rows.now
