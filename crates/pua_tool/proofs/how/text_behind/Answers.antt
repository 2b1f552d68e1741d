use Rattle.pua_tool.proofs.Common.{◌∙◌, ap, sym, Err, ToolFault, as_replayed, err_from_is_err_and}
use Rattle.std.specs.Prelude.{string_bytes, vec_items}
use Rattle.pua_tool.specs.HowTexts.{way_wanted}
use Rattle.pua_tool.proofs.HowTexts.{fault_asked, found_asked, never_asked, no_process}
use Rattle.pua_tool.proofs.how.text_behind.Goals as goal

pub returns-in_err-question-clause-refused : goal.returns-in_err-question-clause-refused
returns-in_err-question-clause-refused c =
    let p = err_from_is_err_and c.from_residual.result c.from_residual.ensures.1 in
    rw (p.1, p.2) (λ other.
    let asked = c.in_err-question.ensures.refused other in
    fault_asked (as_replayed c.args.replay.now) (way_wanted c.args.words.now) asked.0 c.args.rules c.in_err-question.field-0.0 asked.1)

pub returns-in_err-found-clause-refused : goal.returns-in_err-found-clause-refused
returns-in_err-found-clause-refused c =
    let p = err_from_is_err_and c.from_residual-in_err-found.result c.from_residual-in_err-found.ensures.1 in
    let done = as_replayed c.args.replay.now in
    let wanted = way_wanted c.args.words.now in
    let fault = c.in_err-found.field-0.0 in
    rw (p.1, p.2) (λ other.
    let gone = c.in_err-found.ensures.refused other in
    fault_asked done wanted 0 c.args.rules fault (no_process done wanted 0 gone.1 ∙ ap (λ (fault : ToolFault). Err fault) (sym gone.0)))

pub returns-then-not-question-clause-done : goal.returns-then-not-question-clause-done
returns-then-not-question-clause-done c =
    never_asked c.args.rules (as_replayed c.args.replay.now) (way_wanted c.args.words.now) c.in_ok-question.question
    c.in_ok-question.ensures.asked c.if-not-question.true (string_bytes c.in_ok-never_text.field-0) c.in_ok-never_text.ensures

pub returns-in_err-never_text-clause-refused : goal.returns-in_err-never_text-clause-refused
returns-in_err-never_text-clause-refused c =
    let p = err_from_is_err_and c.from_residual-in_err-never_text.result c.from_residual-in_err-never_text.ensures.1 in
    rw p.1 (λ other. absurd (other p.2))

pub returns-clause-done : goal.returns-clause-done
returns-clause-done c =
    let wanted = way_wanted c.args.words.now in
    let q = c.in_ok-question.question in
    found_asked c.args.rules (as_replayed c.args.replay.now) wanted q c.in_ok-question.ensures.asked vec_items c.in_ok-found.found
    c.in_ok-found.ensures.way c.in_ok-found.ensures.none c.if-not-question.false
    (string_bytes c.in_ok-told.field-0) c.in_ok-told.ensures

pub returns-in_err-told-clause-refused : goal.returns-in_err-told-clause-refused
returns-in_err-told-clause-refused c =
    let p = err_from_is_err_and c.from_residual-in_err-told.result c.from_residual-in_err-told.ensures.1 in
    rw p.1 (λ other. absurd (other p.2))
