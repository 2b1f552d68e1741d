use Rattle.pua_texts.proofs.Common.{◌++◌, ◌∙◌, [], ap, sym, subst, List, Tree}
use Rattle.std.specs.List.{AllByRecursion}
use Rattle.pua_objects.specs.Lines.{shown_lines}
use Rattle.pua_objects.specs.ListItems.{IsToldIn, items_told}
use Rattle.pua_objects.proofs.ForCallers.{shown_by_root}
use Rattle.pua_objects.specs.Roots.{IsByRoot, shown_of}
use Rattle.pua_objects.specs.declared.list.ListItem.{ListItem}
use Rattle.pua_texts.specs.EndingsState.{EndingsState}
use Rattle.pua_texts.specs.ListLines.{lines_text}
use Rattle.pua_texts.specs.ObjectLines.{object_lines}
use Rattle.pua_texts.specs.States.{head_lines}
use Rattle.pua_texts.proofs.ListLines.{list_headed}
use Rattle.pua_texts.proofs.Outcomes.{if_ok}
use Rattle.pua_texts.proofs.object_lists.begin_list.Goals as goal

pub returns : goal.returns
returns g c = if_ok c.new.result (λ list is.
    let t : Tree = g.T.FileTree.content c.args.tree.now in
    let h = c.args.process.now in
    let table = c.args.table.now in
    let lent = c.as_slice.ensures.value in
    let told = subst (λ (items : List ListItem). AllByRecursion (IsToldIn t h) items) (sym lent) c.in_ok-items.ensures.told in
    let by_root = subst (IsByRoot h) (sym c.in_ok-shown.ensures) (shown_by_root t h) in
    list_headed t list _ _ c.plain.result c.args.heading h is c.in_ok-head.ensures
    ∙ ap (λ lines. head_lines t c.args.heading h ++ lines)
    (ap (λ (s : EndingsState). lines_text s [] c.in_ok-lines.lines.items) c.plain.ensures ∙ c.in_ok-lines.ensures t by_root told
    ∙ (λ i. object_lines t (shown_lines t table h (c.in_ok-shown.ensures i) (items_told t [] (lent i))))
    ∙ (λ i. object_lines t (shown_lines t table h (shown_of t h) (c.in_ok-items.ensures.items i)))))
    c.new.ensures
