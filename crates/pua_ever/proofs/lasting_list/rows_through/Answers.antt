use Rattle.pua_ever.proofs.Common.{[], sym, ap, subst, ◌∙◌, ever, ProcessState}
use Rattle.std.proofs.lemmas.Result.{err_from_is_err_and}
use Rattle.pua_policy.specs.States.{with_both}
use Rattle.std.specs.List.{AllByRecursion}
use Rattle.pua_objects.specs.Roots.{shown_for_ever}
use Rattle.pua_ever.specs.EverList.{AreEverTold, IsRowOn, abouts}
use Rattle.pua_ever.specs.Refusals.{refusal}
use Rattle.pua_ever.specs.ShownForEver.{lines_shown}
use Rattle.pua_ever.specs.Through.{ever_through}
use Rattle.pua_ever.proofs.Chosen.{through_lines, unrefused_both}
use Rattle.pua_ever.proofs.RowsLast.{rows_on_both, same_rows}
use Rattle.pua_ever.proofs.lasting_list.rows_through.Goals as goal

pub returns-in-Ok-shown_of-clause-rows : goal.returns-in-Ok-shown_of-clause-rows
returns-in-Ok-shown_of-clause-rows g c = λ h is.
    let t = g.T.FileTree.content c.args.tree.now in
    let table = c.args.table.now in
    let both = c.args.both.now.process in
    let rows = c.in_ok-rows.rows.items in
    let lines = ever t table (with_both h is.given) in
    let there = subst (λ p. AreEverTold t [] rows (ever t table p) []) is.process c.in_ok-rows.ensures.rows in
    let told = subst (λ lines. AreEverTold t [] c.in-Ok.through.items lines []) (through_lines t table h is.given c.args.both.now.passes is.passes)
    (c.in-Ok.ensures.told t lines (subst (λ rows. AreEverTold t [] rows lines []) (sym c.as_slice.ensures.value) there)) in
    let on = same_rows t both rows c.in-Ok.through.items (c.in-Ok.ensures.same ∙ ap abouts c.as_slice.ensures.value) c.in_ok-rows.ensures.items in
    subst (λ (p : ProcessState). AreEverTold t [] c.in-Ok-shown_of.shown.items (lines_shown t (shown_for_ever t p) (ever_through t table h is.given)) [])
    is.process (c.in-Ok-shown_of.ensures.told (ever_through t table h is.given) on told)

pub returns-in-Ok-shown_of-clause-items : goal.returns-in-Ok-shown_of-clause-items
returns-in-Ok-shown_of-clause-items g c = λ h is.
    let t = g.T.FileTree.content c.args.tree.now in
    let both = c.args.both.now.process in
    let rows = c.in_ok-rows.rows.items in
    let shown = c.in-Ok-shown_of.shown.items in
    let on = same_rows t both rows shown
    (c.in-Ok-shown_of.ensures.same ∙ c.in-Ok.ensures.same ∙ ap abouts c.as_slice.ensures.value) c.in_ok-rows.ensures.items in
    rows_on_both t h is.given shown (subst (λ p. AllByRecursion (IsRowOn t p) shown) is.process on)

pub returns-in_err-rows-clause-unrefused : goal.returns-in_err-rows-clause-unrefused
returns-in_err-rows-clause-unrefused g c =
    let p = err_from_is_err_and c.from_residual.result c.from_residual.ensures.1 in
    rw (p.1, p.2) (λ h is none.
    sym c.in_err-rows.ensures.refused ∙ ap (refusal c.args.table.now) is.process ∙ unrefused_both c.args.table.now h is.given none)
