use Rattle.pua_tool.proofs.Common.{◌≡◌, ℕ, List, ◌++◌, ◌∙◌, Err, Ok, ap, sym, subst, map, None, Some, ProcessState, Tree, CallTable}
use Rattle.pua_tool.proofs.Common.{kept_at, AnswersTo, err_from_is_err_and, unless_reason, NoText, refl, world_of}
use Rattle.std.specs.Prelude.{[], ok_or, option_copied, string_bytes}
use Rattle.pua_calls.specs.TmpTable.{tmp_table}
use Rattle.pua_script.specs.Worlds.{process_at}
use Rattle.pua_since.specs.Dates.{veil_date, veils_of}
use Rattle.pua_ever.specs.Ever.{EverLine}
use Rattle.pua_ever.specs.declared.lasting_list.ExecBound.{ExecBound}
use Rattle.pua_ever.specs.declared.list.EverRow.{EverRow}
use Rattle.pua_ever.specs.LastingList.{IsBoundedExecOf, IsLasting}
use Rattle.pua_ever.specs.Refusals.{refusal}
use Rattle.pua_ever.specs.ShownForEver.{shown_lasting}
use Rattle.pua_texts.specs.EverHowLines.{AreToldWith, ever_list_with}
use Rattle.pua_texts.specs.Lines.{with_end}
use Rattle.pua_texts.specs.WhyLines.{world_left}
use Rattle.pua_texts.proofs.ForCallers.{dates_are}
use Rattle.pua_tool.specs.EverWhyTexts.{column_by, ever_why_list, holder_by}
use Rattle.pua_tool.specs.TwoWorlds.{as_served}
use Rattle.pua_tool.specs.WhyTexts.{reason_lines}
use Rattle.pua_tool.specs.declared.fault.ToolFault.TheVariants.{NoProcess}
use Rattle.pua_tool.proofs.EverColumns.{told_columns}
use Rattle.pua_tool.proofs.TextAnswers.{answers_refused, answers_told, first_refuses, next_answers}
use Rattle.pua_tool.proofs.TmpTables.{refused_too}
use Rattle.pua_tool.proofs.ever_why.list_to.Goals as goal

pub returns-in_err-front : goal.returns-in_err-front
returns-in_err-front g c =
    let p = err_from_is_err_and c.from_residual.result c.from_residual.ensures.1 in
    rw (p.1, p.2) (λ read is. (λ other. absurd (other refl), refl))

pub returns-in_default : goal.returns-in_default
returns-in_default g c = λ read is.
    let p = as_served c.args.worlds.now in
    let n : ℕ = c.args.number in
    let left = c.dated_front.ensures.after ∙ is.after in
    let none : kept_at (world_left p) n ≡ None = (λ i. kept_at (world_of (sym left i)) n) ∙ sym c.in_default.ensures in
    first_refuses g.S.Sink.written g.S.Sink.failed (ok_or (kept_at (world_left p) n) NoProcess)
    (λ h. unless_reason n (refusal p.table h) (reason_lines p ++ ever_why_list c.args.rules p n h)) NoProcess c.args.sink.now
    (λ other. ap (λ made. ok_or made NoProcess) none)

pub returns-in_err-both : goal.returns-in_err-both
returns-in_err-both g c =
    let p = err_from_is_err_and c.from_residual-in_err-both.result c.from_residual-in_err-both.ensures.1 in
    rw (p.1, p.2) (λ read is. (λ other. absurd (other refl), refl))

pub returns-in-Err : goal.returns-in-Err
returns-in-Err g c = λ read is.
    let p = as_served c.args.worlds.now in
    let n : ℕ = c.args.number in
    let fault = c.fault_of.result in
    let h : ProcessState = c.in-Some.process.now in
    let left = c.dated_front.ensures.after ∙ is.after in
    let made : kept_at (world_left p) n ≡ Some h = (λ i. kept_at (world_of (sym left i)) n) ∙ sym c.in-Some.ensures in
    let wide : CallTable = c.with_tmppath-wide.result in
    let ruled : wide ≡ tmp_table p.table = c.with_tmppath-wide.ensures ∙ ap tmp_table (c.table.ensures ∙ (λ i. (left i).table)) in
    let whose = subst (IsBoundedExecOf wide h) (sym c.as_ref.ensures.value) c.in_ok-both.ensures in
    let text = λ (h : ProcessState). reason_lines p ++ ever_why_list c.args.rules p n h in
    next_answers g.S.Sink.written g.S.Sink.failed (ok_or (kept_at (world_left p) n) NoProcess)
    (λ h. unless_reason n (refusal p.table h) (text h)) h (Err (NoText fault)) c.args.sink.now c.args.sink.now
    (ap (λ made. ok_or made NoProcess) made)
    (answers_refused g.S.Sink.written g.S.Sink.failed (unless_reason n (refusal p.table h) (text h)) fault c.args.sink.now
    (λ other. ap (λ reason. unless_reason n reason (text h))
    (sym (refused_too p.table h) ∙ (λ i. refusal (sym ruled i) h) ∙ c.in-Err.ensures.refused whose)
    ∙ c.fault_of.ensures (text h) other))

pub returns-in_err-columns : goal.returns-in_err-columns
returns-in_err-columns g c =
    let p = err_from_is_err_and c.from_residual-in_err-columns.result c.from_residual-in_err-columns.ensures.1 in
    rw (p.1, p.2) (λ read is. (λ other. absurd (other refl), refl))

pub returns-in_err-lists : goal.returns-in_err-lists
returns-in_err-lists g c =
    let p = err_from_is_err_and c.from_residual-in_err-lists.result c.from_residual-in_err-lists.ensures.1 in
    rw (p.1, p.2) (λ read is. (λ other. absurd (other refl), refl))

pub returns : goal.returns
returns g c = λ read is.
    let p = as_served c.args.worlds.now in
    let n : ℕ = c.args.number in
    let rules = c.args.rules in
    let h : ProcessState = c.in-Some.process.now in
    let wide : CallTable = c.with_tmppath-wide.result in
    let table : CallTable = tmp_table p.table in
    let t : Tree = c.tree-tree.result.now in
    let after = c.dated_front.ensures.after in
    let left = after ∙ is.after in
    let made : kept_at (world_left p) n ≡ Some h = (λ i. kept_at (world_of (sym left i)) n) ∙ sym c.in-Some.ensures in
    let seen : process_at c.args.worlds.now.after n ≡ Some h = (λ i. process_at (sym after i) n) ∙ sym c.in-Some.ensures in
    let ruled : wide ≡ table = c.with_tmppath-wide.ensures ∙ ap tmp_table (c.table.ensures ∙ (λ i. (left i).table)) in
    let at : t ≡ (world_left p).tree = c.tree-tree.ensures ∙ (λ i. (world_of (left i)).tree) in
    let whose = subst (IsBoundedExecOf wide h) (sym c.as_ref.ensures.value) c.in_ok-both.ensures in
    let again = subst (λ (table : CallTable). IsBoundedExecOf table h (option_copied c.as_ref-2.result)) ruled
    (subst (IsBoundedExecOf wide h) (sym c.as_ref-2.ensures.value) c.in_ok-both.ensures) in
    let list = c.in-Ok.list in
    let rows : List EverRow = list.rows.items in
    let texts : List (List ℕ) = map string_bytes c.in_ok-columns.columns.items in
    let lasting = c.in-Ok.ensures.list whose in
    let there = subst (λ (table : CallTable). IsLasting (world_left p).tree table h list) ruled
    (subst (λ (t : Tree). IsLasting t wide h list) at lasting) in
    let dated = c.in_ok-front.ensures.dated read is in
    let dates = c.as_slice-dates.ensures.value ∙ dated.1
    ∙ (λ i. map (veil_date p.table p.world p.asks) (veils_of n (seen i))) ∙ dates_are p n h made c.known.ensures in
    let columns = c.in_ok-columns.ensures p n at ruled again there.items dates in
    let behind = λ (execs : ExecBound).
    map (λ (line : EverLine). (line, with_end (column_by p n h (holder_by table h execs) execs line))) (shown_lasting (world_left p).tree table h) in
    let told = told_columns p n h (holder_by table h list.execs) list.execs [] rows texts (shown_lasting (world_left p).tree table h)
    there.rows columns in
    let listed = c.in_ok-lists.ensures wide (behind list.execs) lasting.execs
    (subst (λ (t : Tree). AreToldWith t [] rows texts (behind list.execs)) (sym at) told) in
    let front : c.as_str.result.now ≡ reason_lines p = c.as_str.ensures.value ∙ dated.0 in
    let text = λ (h : ProcessState). reason_lines p ++ ever_why_list rules p n h in
    let none : refusal p.table h ≡ None =
    sym (refused_too p.table h) ∙ (λ i. refusal (sym ruled i) h) ∙ c.in-Ok.ensures.refused whose in
    next_answers g.S.Sink.written g.S.Sink.failed (ok_or (kept_at (world_left p) n) NoProcess)
    (λ h. unless_reason n (refusal p.table h) (text h)) h c.put_lists.result c.args.sink.now c.put_lists.new.sink
    (ap (λ made. ok_or made NoProcess) made)
    (answers_told g.S.Sink.written g.S.Sink.failed (unless_reason n (refusal p.table h) (text h)) (text h) c.put_lists.result c.args.sink.now
    c.put_lists.new.sink (ap (λ reason. unless_reason n reason (text h)) none)
    (subst (λ (text : List ℕ). AnswersTo g.S.Sink.written g.S.Sink.failed (Ok text) c.put_lists.result c.args.sink.now c.put_lists.new.sink)
    ((λ i. front i ++ listed i)
    ∙ (λ i. reason_lines p ++ ever_list_with rules (ruled i) (at i) n h (behind list.execs))
    ∙ ap (λ execs. reason_lines p ++ ever_list_with rules table (world_left p).tree n h (behind execs)) there.execs)
    c.put_lists.ensures))
