use Rattle.pua_tool.proofs.Common.{map, line_seen}
use Rattle.pua_tool.proofs.Common.{◌≡◌, ℕ, List, ◌++◌, Err, Ok, ap, sym, subst, ◌∙◌, None, ProcessState, kept_at, answer_lines, AnswersTo}
use Rattle.pua_tool.proofs.Common.{err_from_is_err_and, unless_reason, as_replayed, refl, NoText}
use Rattle.std.specs.Prelude.{ok_or}
use Rattle.pua_calls.specs.TmpTable.{tmp_table}
use Rattle.pua_ever.specs.LastingList.{IsBoundedExecOf}
use Rattle.pua_ever.specs.Refusals.{refusal}
use Rattle.pua_texts.specs.EverLines.{ever_list}
use Rattle.pua_tool.specs.declared.fault.ToolFault.TheVariants.{NoProcess}
use Rattle.pua_tool.proofs.TextAnswers.{answers_refused, answers_told, next_answers}
use Rattle.pua_tool.proofs.TmpTables.{refused_too}
use Rattle.pua_tool.proofs.ever.list_to.Goals as goal

pub returns-in-Err : goal.returns-in-Err
returns-in-Err g c =
    let fault = c.fault_of.result in
    let n : ℕ = c.args.number in
    let done = as_replayed c.args.replay.now in
    let h = c.in-Some.process.now in
    let wide = c.with_tmppath-wide.result in
    let ruled : wide ≡ tmp_table done.table = c.with_tmppath-wide.ensures ∙ ap tmp_table c.table.ensures in
    let whose = subst (IsBoundedExecOf wide h) (sym c.as_ref.ensures.value) c.in_ok-both.ensures in
    let text = λ (h : ProcessState). answer_lines 1 done.answers ++ ever_list c.args.rules (tmp_table done.table) done.world.tree n h in
    next_answers g.S.Sink.written g.S.Sink.failed (ok_or (kept_at done.world n) NoProcess)
    (λ h. unless_reason n (refusal done.table h) (text h)) h (Err (NoText fault)) c.args.sink.now c.args.sink.now
    (ap (λ made. ok_or made NoProcess) (sym c.in-Some.ensures))
    (answers_refused g.S.Sink.written g.S.Sink.failed (unless_reason n (refusal done.table h) (text h)) fault c.args.sink.now
    (λ other. ap (λ reason. unless_reason n reason (text h))
    (sym (refused_too done.table h) ∙ (λ i. refusal (sym ruled i) h) ∙ c.in-Err.ensures.refused whose)
    ∙ c.fault_of.ensures (text h) other))

pub returns-in_err-front : goal.returns-in_err-front
returns-in_err-front g c =
    let p = err_from_is_err_and c.from_residual-in_err-front.result c.from_residual-in_err-front.ensures.1 in
    rw (p.1, p.2) (λ other. absurd (other refl), refl)

pub returns-in_err-lists : goal.returns-in_err-lists
returns-in_err-lists g c =
    let p = err_from_is_err_and c.from_residual-in_err-lists.result c.from_residual-in_err-lists.ensures.1 in
    rw (p.1, p.2) (λ other. absurd (other refl), refl)

pub returns : goal.returns
returns g c =
    let n : ℕ = c.args.number in
    let done = as_replayed c.args.replay.now in
    let h = c.in-Some.process.now in
    let wide = c.with_tmppath-wide.result in
    let ruled : wide ≡ tmp_table done.table = c.with_tmppath-wide.ensures ∙ ap tmp_table c.table.ensures in
    let whose = subst (IsBoundedExecOf wide h) (sym c.as_ref.ensures.value) c.in_ok-both.ensures in
    let front : c.as_str.result.now ≡ answer_lines 1 done.answers = c.as_str.ensures.value ∙ c.in_ok-front.ensures ∙
    ap (λ told. answer_lines 1 (map line_seen told)) c.as_slice.ensures.value in
    let lasting = c.in-Ok.ensures.list whose in
    let listed : refusal done.table h ≡ None =
    sym (refused_too done.table h) ∙ (λ i. refusal (sym ruled i) h) ∙ c.in-Ok.ensures.refused whose in
    let text = λ (h : ProcessState). answer_lines 1 done.answers ++ ever_list c.args.rules (tmp_table done.table) done.world.tree n h in
    next_answers g.S.Sink.written g.S.Sink.failed (ok_or (kept_at done.world n) NoProcess)
    (λ h. unless_reason n (refusal done.table h) (text h)) h c.put_lists.result c.args.sink.now c.put_lists.new.sink
    (ap (λ made. ok_or made NoProcess) (sym c.in-Some.ensures))
    (answers_told g.S.Sink.written g.S.Sink.failed (unless_reason n (refusal done.table h) (text h)) (text h) c.put_lists.result c.args.sink.now
    c.put_lists.new.sink (ap (λ reason. unless_reason n reason (text h)) listed)
    (subst (λ (text : List ℕ). AnswersTo g.S.Sink.written g.S.Sink.failed (Ok text) c.put_lists.result c.args.sink.now c.put_lists.new.sink)
    ((λ i. front i ++ c.in_ok-lists.ensures wide lasting i)
    ∙ (λ i. answer_lines 1 done.answers ++ ever_list c.args.rules (ruled i) (c.tree-tree.ensures i) n h)) c.put_lists.ensures))
