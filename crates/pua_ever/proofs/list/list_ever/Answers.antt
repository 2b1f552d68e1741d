use Rattle.pua_ever.proofs.Common.{◌++◌, [], sym, ap, subst, ◌∙◌, Some, flat_map, ever_lines_of, both_of, made_left}
use Rattle.std.specs.List.{AllByRecursion}
use Rattle.pua_objects.specs.ListItems.{AreNear, IsToldIn, items_told}
use Rattle.pua_ever.specs.EverList.{AreEverTold}
use Rattle.pua_ever.specs.declared.made.Made.TheVariants.{Dir}
use Rattle.pua_ever.proofs.Lined.{lines_first}
use Rattle.pua_ever.proofs.list.list_ever.Goals as goal

pub returns-clause-rows : goal.returns-clause-rows
returns-clause-rows g c =
    let h = c.args.process.now in
    let t = g.T.FileTree.content c.args.tree.now in
    let table = c.args.table.now in
    let same = c.deref.ensures.value in
    let given = c.in-Ok-list_items.ensures in
    let found = c.in-Ok.ensures in
    subst (λ lines. AreEverTold t [] c.add_made.new.rows.items lines [])
    (ap (λ xs. ever_lines_of t table h (flat_map both_of xs ++ made_left (Some Dir)))
    (ap (items_told t []) same ∙ given.items) ∙ lines_first t table h)
    (c.in-Ok-add_made.ensures.told t table h c.deref.result.now found
    (c.in-Ok-rows_of.ensures.told c.known.ensures (c.why_refused.ensures.none c.in_default.is) found
    (subst (AllByRecursion (IsToldIn t c.args.process.now)) (sym same) given.told) (subst (AreNear []) (sym same) given.near)))

pub returns-clause-items : goal.returns-clause-items
returns-clause-items g c =
    let t = g.T.FileTree.content c.args.tree.now in
    c.in-Ok-add_made.ensures.items t c.args.process.now
    (c.in-Ok-rows_of.ensures.items t c.known.ensures (subst (AllByRecursion (IsToldIn t c.args.process.now)) (sym c.deref.ensures.value) c.in-Ok-list_items.ensures.told))

pub returns-clause-confined : goal.returns-clause-confined
returns-clause-confined g c = c.why_refused.ensures.confined c.in_default.is
