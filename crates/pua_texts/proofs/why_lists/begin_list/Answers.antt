use Rattle.pua_texts.proofs.Common.{◌++◌, ◌∙◌, [], ap, sym, subst, List, Tree}
use Rattle.std.specs.List.{AllByRecursion}
use Rattle.std.specs.Prelude.{flat_map}
use Rattle.pua_objects.specs.Lines.{shown_lines}
use Rattle.pua_objects.specs.ListItems.{IsToldIn, items_told}
use Rattle.pua_objects.specs.Objects.{items}
use Rattle.pua_objects.proofs.ForCallers.{shown_by_root}
use Rattle.pua_objects.specs.Roots.{IsByRoot, shown_of}
use Rattle.pua_objects.specs.declared.list.ListItem.{ListItem}
use Rattle.pua_texts.specs.Lists.{head_of}
use Rattle.pua_texts.specs.States.{head_lines}
use Rattle.pua_texts.specs.WhyLines.{why_line, world_left}
use Rattle.pua_texts.proofs.ListLines.{list_headed}
use Rattle.pua_texts.proofs.Outcomes.{if_ok}
use Rattle.pua_texts.proofs.why_lists.begin_list.Goals as goal

pub returns : goal.returns
returns g c = if_ok c.new.result (λ list is p over ruled dates.
    let given : Tree = g.T.FileTree.content c.args.tree.now in
    let t : Tree = (world_left p).tree in
    let h = c.args.process.now in
    let head = c.args.heading in
    let lent = c.as_slice-items.ensures.value in
    let told = subst (λ (u : Tree). AllByRecursion (IsToldIn u h) c.as_slice-items.result.now) over
    (subst (λ (listed : List ListItem). AllByRecursion (IsToldIn given h) listed) (sym lent) c.in_ok-items.ensures.told) in
    let listed = ap (λ (u : Tree). items_told u [] c.in_ok-items.items.items) (sym over) ∙ c.in_ok-items.ensures.items
    ∙ ap (λ (u : Tree). items u h.veils) over in
    let shown = c.in_ok-shown.ensures ∙ ap (λ (u : Tree). shown_of u h) over in
    let by_root = subst (IsByRoot h) (sym shown) (shown_by_root t h) in
    list_headed t list _ _ _ head h is (c.in_ok-head.ensures ∙ ap (λ (u : Tree). head_of u head h) over)
    ∙ ap (λ lines. head_lines t head h ++ lines)
    (c.in_ok-lines.ensures p head.number ruled by_root told (c.in_ok-columns.ensures p head.number over dates)
    ∙ (λ i. flat_map (why_line p head.number h) (shown_lines t p.table h (shown i) (items_told t [] (lent i))))
    ∙ (λ i. flat_map (why_line p head.number h) (shown_lines t p.table h (shown_of t h) (listed i)))))
    c.new.ensures
