use Rattle.pua_ever.proofs.Common.{[], sym, subst, ◌∙◌}
use Rattle.std.specs.List.{AllByRecursion}
use Rattle.pua_objects.specs.declared.roots.Shown.{Shown}
use Rattle.pua_ever.specs.EverList.{AreEverTold, IsMarked}
use Rattle.pua_ever.specs.ShownForEver.{lines_shown}
use Rattle.pua_ever.proofs.RowsLast.{all_marked}
use Rattle.pua_ever.proofs.ShownLasts.{below_root}
use Rattle.pua_ever.proofs.lasting_list.shown_of.Goals as goal

pub returns-in-All-clause-told : goal.returns-in-All-clause-told
returns-in-All-clause-told g c = λ lines on told.
    let t = g.T.FileTree.content c.args.tree.now in
    subst (λ (s : Shown). AreEverTold t [] c.args.rows.items (lines_shown t s lines) [])
    (sym c.in-All.is ∙ c.in_ok-for_ever.ensures) told

pub returns-clause-told : goal.returns-clause-told
returns-clause-told g c = λ lines on told.
    let t = g.T.FileTree.content c.args.tree.now in
    let h = c.args.process.now in
    let is = sym c.in-Below.is ∙ c.in_ok-for_ever.ensures in
    subst (λ (s : Shown). AreEverTold t [] c.in_ok-inside_alone-in-Below.field-0.items (lines_shown t s lines) []) is
    (c.in_ok-inside_alone-in-Below.ensures.told t c.in-Below.field-0 lines
    (subst (λ rows. AllByRecursion (IsMarked t c.in-Below.field-0) rows) (sym c.as_slice.ensures.value)
    (subst (λ root. AllByRecursion (IsMarked t root) c.args.rows.items) (sym (below_root t h c.in-Below.field-0 (sym is)))
    (all_marked t h c.args.rows.items on)))
    (subst (λ rows. AreEverTold t [] rows lines []) (sym c.as_slice.ensures.value) told))
