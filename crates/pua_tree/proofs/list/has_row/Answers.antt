use Rattle.pua_tree.proofs.Common.{rules, ◌∙◌, always_returns_same, ListRow}
use Rattle.pua_tree.proofs.Rows.{any_row}
use Rattle.pua_tree.proofs.list.has_row.Goals as goal

pub returns : goal.returns
returns c =
    let searched = c.binary_search_by_key.ensures.position (λ (row : ListRow). row.dir)
    (always_returns_same _ _ _ (λ a r f g. search rules)) in
    c.is_ok.ensures.value ∙ any_row _ c.args.dir _ c.requires c.binary_search_by_key.ensures.bound searched
