use Rattle.pua_tool.proofs.Common.{◌≡◌, ◌∙◌, CallTable, Tree, ap, subst, sym, with_end}
use Rattle.std.specs.List.{AllByRecursion}
use Rattle.std.specs.Prelude.{option_map}
use Rattle.pua_calls.specs.CallSets.{has}
use Rattle.pua_calls.specs.declared.call.Call.{Call}
use Rattle.pua_tree.proofs.ForCallers.{same_Some, None≢Some}
use Rattle.pua_ever.specs.EverList.{thing_of}
use Rattle.pua_how.specs.declared.target.Target.{Target}
use Rattle.pua_how.specs.Targets.{target_about}
use Rattle.pua_tool.specs.EverHowTexts.{counts_text}
use Rattle.pua_tool.specs.RowColumns.{IsCountTo, done_behind, is_now_on}
use Rattle.pua_tool.proofs.RowColumns.{column_is}
use Rattle.pua_tool.proofs.columns.column_of.Goals as goal

pub returns-in_default : goal.returns-in_default
returns-in_default c = λ above on about thing is.
    let done = done_behind c.args.behind.now in
    let none = sym c.in_default.is ∙ c.target_of.ensures ∙ ap (λ (t : Tree). option_map (target_about c.args.last) (thing_of t c.args.row.now)) c.tree.ensures
    ∙ ap (option_map (target_about c.args.last)) is in
    absurd (None≢Some (target_about c.args.last about) none)

pub returns : goal.returns
returns c = λ above on about thing is.
    let rules = c.args.behind.now.rules in
    let done = done_behind c.args.behind.now in
    let h = c.args.process.now in
    let row = c.args.row.now in
    let number = c.args.behind.now.number in
    let counts = c.in_ok-counts.counts.items in
    let now : (call : Call) → has c.calls_now-now.result call ≡ is_now_on done.world.tree done.table h about call =
    subst (λ (table : CallTable). (call : Call) → has c.calls_now-now.result call ≡ is_now_on done.world.tree table h about call)
    c.table.ensures (c.calls_now-now.ensures done.world.tree about on is) in
    let target : c.in-Some.target ≡ target_about c.args.last about =
    same_Some c.in-Some.target (target_about c.args.last about)
    (sym c.in-Some.is ∙ c.target_of.ensures ∙ ap (λ (t : Tree). option_map (target_about c.args.last) (thing_of t row)) c.tree.ensures
    ∙ ap (option_map (target_about c.args.last)) is) in
    column_is rules done number h row about c.args.last c.without-lacking.result c.calls_now-now.result counts _ above thing c.without-lacking.ensures now
    c.in_ok-counts.ensures.calls
    (subst (λ (target : Target). AllByRecursion (IsCountTo rules done number target) counts) target c.in_ok-counts.ensures.counts)
    (c.in_ok-text_of-2.ensures ∙ ap (λ counts. with_end (counts_text 32 counts)) c.as_slice.ensures.value)
