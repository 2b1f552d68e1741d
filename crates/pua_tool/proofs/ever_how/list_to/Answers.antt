use Rattle.pua_tool.proofs.Common.{line_seen}
use Rattle.pua_tool.proofs.Common.{◌≡◌, ℕ, List, [], ◌++◌, ◌∙◌, map, ap, sym, subst, refl, None, Ok, ProcessState, Tree, CallTable}
use Rattle.pua_tool.proofs.Common.{answer_lines, err_from_is_err_and, OutOfMemory, unless_reason, AnswersTo}
use Rattle.std.specs.List.{AllByRecursion}
use Rattle.std.specs.Prelude.{string_bytes}
use Rattle.pua_tree.specs.Tree.{WellFormed}
use Rattle.pua_calls.specs.TmpTable.{tmp_table}
use Rattle.pua_ever.specs.EverList.{AreEverTold, IsRowOn}
use Rattle.pua_ever.specs.LastingList.{IsBoundedExecOf, IsLasting}
use Rattle.pua_ever.specs.Refusals.{refusal}
use Rattle.pua_ever.specs.ShownForEver.{shown_lasting}
use Rattle.pua_ever.specs.declared.list.EverRow.{EverRow}
use Rattle.pua_texts.specs.EverHowLines.{AreToldWith, ever_list_with}
use Rattle.pua_tool.specs.EverHowTexts.{below_asked, lines_below}
use Rattle.pua_tool.specs.RowColumns.{AreColumns, done_behind}
use Rattle.pua_tool.specs.RowsBelow.{IsKeptBelow}
use Rattle.pua_tool.specs.Texts.{given_bytes}
use Rattle.pua_tool.specs.declared.fault.ToolFault.TheVariants.{NoProcess}
use Rattle.pua_tool.proofs.EverHowTexts.{fault_after, list_after, no_process, path_refused, refused_after}
use Rattle.pua_tool.proofs.RowColumns.{columns_told, lines_told}
use Rattle.pua_tool.proofs.RowsBelow.{kept_on, kept_told}
use Rattle.pua_tool.proofs.TmpTables.{refused_too}
use Rattle.pua_tool.proofs.ever_how.list_to.Goals as goal

pub returns-in_default : goal.returns-in_default
returns-in_default g c =
    let behind = c.args.behind.now in
    let done = done_behind behind in
    fault_after behind.rules done behind.number (given_bytes c.args.path) g.S.Sink.written g.S.Sink.failed NoProcess c.args.sink.now
    (λ other. no_process behind.rules done behind.number (given_bytes c.args.path) (sym c.in_default.ensures))

pub returns-in_err-both : goal.returns-in_err-both
returns-in_err-both g c =
    let p = err_from_is_err_and c.from_residual.result c.from_residual.ensures.1 in
    let behind = c.args.behind.now in
    rw (p.1, p.2) (fault_after behind.rules (done_behind behind) behind.number (given_bytes c.args.path) g.S.Sink.written g.S.Sink.failed OutOfMemory c.args.sink.now
    (λ other. absurd (other refl)))

pub returns-in-Err : goal.returns-in-Err
returns-in-Err g c =
    let behind = c.args.behind.now in
    let done = done_behind behind in
    let n : ℕ = behind.number in
    let fault = c.fault_of.result in
    let h = c.in-Some.process.now in
    let wide : CallTable = c.with_tmppath-wide.result in
    let ruled : wide ≡ tmp_table done.table = c.with_tmppath-wide.ensures ∙ ap tmp_table c.table.ensures in
    let whose = subst (IsBoundedExecOf wide h) (sym c.as_ref.ensures.value) c.in_ok-both.ensures in
    let reason = sym (refused_too done.table h) ∙ (λ i. refusal (sym ruled i) h) ∙ c.in-Err.ensures.refused whose in
    fault_after behind.rules done n (given_bytes c.args.path) g.S.Sink.written g.S.Sink.failed fault c.args.sink.now
    (λ other. refused_after behind.rules done n (given_bytes c.args.path) h fault (sym c.in-Some.ensures)
    (λ text. ap (λ reason. unless_reason n reason text) reason ∙ c.fault_of.ensures text other))

pub returns-in_err-list : goal.returns-in_err-list
returns-in_err-list g c =
    let p = err_from_is_err_and c.from_residual-in_err-list.result c.from_residual-in_err-list.ensures.1 in
    let behind = c.args.behind.now in
    let done = done_behind behind in
    let path = given_bytes c.args.path in
    let h : ProcessState = c.in-Some.process.now in
    let wide : CallTable = c.with_tmppath-wide.result in
    let ruled : wide ≡ tmp_table done.table = c.with_tmppath-wide.ensures ∙ ap tmp_table c.table.ensures in
    let whose = subst (IsBoundedExecOf wide h) (sym c.as_ref.ensures.value) c.in_ok-both.ensures in
    let none : refusal done.table h ≡ None =
    sym (refused_too done.table h) ∙ (λ i. refusal (sym ruled i) h) ∙ c.in-Ok.ensures.refused whose in
    let fault = c.in_err-list.field-0.0 in
    rw (p.1, p.2) (fault_after behind.rules done behind.number path g.S.Sink.written g.S.Sink.failed fault c.args.sink.now
    (λ other. path_refused behind.rules done behind.number path h fault (sym c.in-Some.ensures) none
    (ap (λ (t : Tree). below_asked t h path) (sym c.tree-tree.ensures) ∙ c.in_err-list.ensures.refused other)))

pub returns-in_err-columns : goal.returns-in_err-columns
returns-in_err-columns g c =
    let p = err_from_is_err_and c.from_residual-in_err-columns.result c.from_residual-in_err-columns.ensures.1 in
    let behind = c.args.behind.now in
    rw (p.1, p.2) (fault_after behind.rules (done_behind behind) behind.number (given_bytes c.args.path) g.S.Sink.written g.S.Sink.failed OutOfMemory c.args.sink.now
    (λ other. absurd (other refl)))

pub returns-in_err-front : goal.returns-in_err-front
returns-in_err-front g c =
    let p = err_from_is_err_and c.from_residual-in_err-front.result c.from_residual-in_err-front.ensures.1 in
    let behind = c.args.behind.now in
    rw (p.1, p.2) (fault_after behind.rules (done_behind behind) behind.number (given_bytes c.args.path) g.S.Sink.written g.S.Sink.failed OutOfMemory c.args.sink.now
    (λ other. absurd (other refl)))

pub returns-in_err-lists : goal.returns-in_err-lists
returns-in_err-lists g c =
    let p = err_from_is_err_and c.from_residual-in_err-lists.result c.from_residual-in_err-lists.ensures.1 in
    let behind = c.args.behind.now in
    rw (p.1, p.2) (fault_after behind.rules (done_behind behind) behind.number (given_bytes c.args.path) g.S.Sink.written g.S.Sink.failed OutOfMemory c.args.sink.now
    (λ other. absurd (other refl)))

pub returns : goal.returns
returns g c =
    let behind = c.args.behind.now in
    let done = done_behind behind in
    let n : ℕ = behind.number in
    let h : ProcessState = c.in-Some.process.now in
    let wide : CallTable = c.with_tmppath-wide.result in
    let table : CallTable = tmp_table done.table in
    let t : Tree = c.tree-tree.result.now in
    let ruled : wide ≡ table = c.with_tmppath-wide.ensures ∙ ap tmp_table c.table.ensures in
    let at : t ≡ done.world.tree = c.tree-tree.ensures in
    let whose = subst (IsBoundedExecOf wide h) (sym c.as_ref.ensures.value) c.in_ok-both.ensures in
    let path = given_bytes c.args.path in
    let list = c.in-Ok.list in
    let rows : List EverRow = c.in_ok-list.list.rows.items in
    let texts : List (List ℕ) = map string_bytes c.in_ok-columns.columns.items in
    let lasting = c.in-Ok.ensures.list whose in
    let there = subst (λ (table : CallTable). IsLasting done.world.tree table h list) ruled
    (subst (λ (t : Tree). IsLasting t wide h list) at lasting) in
    let kept = subst (λ (t : Tree). IsKeptBelow t h path list.rows.items rows) at c.in_ok-list.ensures.rows in
    let shown = lines_below kept.below (shown_lasting done.world.tree table h) in
    let ever = subst (λ (rows : List EverRow). AreEverTold done.world.tree [] rows shown []) (sym kept.are)
    (kept_told done.world.tree kept.below list.rows.items (shown_lasting done.world.tree table h) there.rows) in
    let all_on = subst (λ (rows : List EverRow). AllByRecursion (IsRowOn done.world.tree h) rows) (sym kept.are)
    (kept_on done.world.tree h kept.below list.rows.items there.items) in
    let on = subst (λ (rows : List EverRow). AllByRecursion (IsRowOn done.world.tree h) rows) (sym c.as_slice.ensures.value) all_on in
    let columns = subst (λ (rows : List EverRow). AreColumns behind.rules done n h rows texts) c.as_slice.ensures.value
    (c.in_ok-columns.ensures on) in
    let lines = lines_told behind.rules done n h [] rows texts shown ever columns in
    let own = columns_told behind.rules done n h (subst WellFormed at c.known.ensures) kept.below lines.told lines.lines_are lines.columns in
    let none : refusal done.table h ≡ None =
    sym (refused_too done.table h) ∙ (λ i. refusal (sym ruled i) h) ∙ c.in-Ok.ensures.refused whose in
    let front : c.as_str.result.now ≡ answer_lines 1 done.answers = c.as_str.ensures.value ∙ c.in_ok-front.ensures ∙
    ap (λ told. answer_lines 1 (map line_seen told)) c.as_slice-2.ensures.value in
    let told : List ℕ = ever_list_with behind.rules table done.world.tree n h lines.told in
    let text : List ℕ = answer_lines 1 done.answers ++ told in
    let execs = c.in_ok-list.ensures.execs ∙ lasting.execs in
    let listed = c.in_ok-lists.ensures wide lines.told execs (subst (λ (t : Tree). AreToldWith t [] rows texts lines.told) (sym at) lines.are) in (
      Ok text,
      list_after behind.rules done n path h kept.below told (Ok text) (sym c.in-Some.ensures) none kept.asked
          (record { lines = lines.told; are = lines.lines_are; columns = own; is = refl }) refl,
      subst (λ (text : List ℕ). AnswersTo g.S.Sink.written g.S.Sink.failed (Ok text) c.put_lists.result c.args.sink.now c.put_lists.new.sink)
          ((λ i. front i ++ listed i) ∙ (λ i. answer_lines 1 done.answers ++ ever_list_with behind.rules (ruled i) (at i) n h lines.told))
          c.put_lists.ensures,
    )
