use Rattle.pua_tool.proofs.Common.{◌≡◌, ◌∙◌, ap, sym, subst, Err, Tree, ToolFault, as_replayed, err_from_is_err_and, refl}
use Rattle.pua_calls.specs.Calls.{call_in}
use Rattle.pua_ever.specs.Refusals.{refusal}
use Rattle.pua_tool.specs.HowTexts.{things_asked, way_wanted}
use Rattle.pua_tool.proofs.HowTexts.{no_call, no_list, no_process, no_thing, question_is}
use Rattle.pua_tool.proofs.how.asked_of.Goals as goal

pub returns-in_default-clause-refused : goal.returns-in_default-clause-refused
returns-in_default-clause-refused c = λ other.
    (0, no_process (as_replayed c.args.replay.now) (way_wanted c.args.words.now) 0 (sym c.in_default.ensures))

pub returns-in-Some-why_refused-clause-refused : goal.returns-in-Some-why_refused-clause-refused
returns-in-Some-why_refused-clause-refused c = λ other.
    let h = c.in-Some.process.now in (
      0,
      no_list (as_replayed c.args.replay.now) (way_wanted c.args.words.now) 0 h c.in-Some-why_refused.reason (sym c.in-Some.ensures)
          ((λ i. refusal (sym c.table-table.ensures i) h) ∙ sym c.in-Some-why_refused.ensures.exact)
          ∙ ap (λ (fault : ToolFault). Err fault) (sym c.reason_of.ensures),
    )

pub returns-in_default-call_named-clause-refused : goal.returns-in_default-call_named-clause-refused
returns-in_default-call_named-clause-refused c = λ other.
    let words = c.args.words.now in
    let h = c.in-Some.process.now in (
      0,
      no_call (as_replayed c.args.replay.now) (way_wanted words) 0 h (sym c.in-Some.ensures)
          ((λ i. refusal (sym c.table-table.ensures i) h) ∙ sym c.in_default-why_refused.ensures.exact)
          ((λ i. call_in (sym c.table-table.ensures i) words.call.now) ∙ sym c.in_default-call_named.ensures),
    )

pub returns-in_err-meant-clause-refused : goal.returns-in_err-meant-clause-refused
returns-in_err-meant-clause-refused c =
    let p = err_from_is_err_and c.from_residual.result c.from_residual.ensures.1 in
    let words = c.args.words.now in
    let h = c.in-Some.process.now in
    let fault = c.in_err-meant.field-0.0 in
    rw (p.1, p.2) (λ other.
    let refused = c.in_err-meant.ensures.refused other in (
      refused.0,
      no_thing (as_replayed c.args.replay.now) (way_wanted words) refused.0 h c.in-Some-call_named.call fault (sym c.in-Some.ensures)
          ((λ i. refusal (sym c.table-table.ensures i) h) ∙ sym c.in_default-why_refused.ensures.exact)
          ((λ i. call_in (sym c.table-table.ensures i) words.call.now) ∙ sym c.in-Some-call_named.ensures)
          (subst (λ (t : Tree). things_asked t h (way_wanted words) refused.0 ≡ Err fault) c.tree-tree.ensures refused.1),
    ))

pub returns-in_err-outlook-clause-refused : goal.returns-in_err-outlook-clause-refused
returns-in_err-outlook-clause-refused c =
    let p = err_from_is_err_and c.from_residual-in_err-outlook.result c.from_residual-in_err-outlook.ensures.1 in
    rw (p.1, p.2) (λ other. absurd (other refl))

pub returns-clause-asked : goal.returns-clause-asked
returns-clause-asked c =
    question_is (as_replayed c.args.replay.now) (way_wanted c.args.words.now) _ c.in-Some.process.now _ c.table-table.result.now c.tree-tree.ensures
    c.table-table.ensures (sym c.in-Some.ensures) (sym c.in_default-why_refused.ensures.exact) (sym c.in-Some-call_named.ensures)
    c.in_ok-meant.ensures.meant c.as_slice-things.result.now c.as_slice-things.ensures.value
    (sym c.if-follows_link.ensures) c.in_ok-outlook.ensures
