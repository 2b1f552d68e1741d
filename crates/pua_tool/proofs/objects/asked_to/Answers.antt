use Rattle.pua_tool.proofs.Common.{map, line_seen}
use Rattle.pua_tool.proofs.Common.{◌≡◌, ◌++◌, ◌∙◌, Ok, List, ℕ, ap, subst, err_from_is_err_and, answer_lines, as_replayed, AnswersTo}
use Rattle.pua_texts.specs.ListLines.{lists_text}
use Rattle.pua_texts.specs.ObjectLines.{lists_of}
use Rattle.pua_tool.specs.ObjectTexts.{numbers_asked, objects_after}
use Rattle.pua_tool.proofs.TextAnswers.{first_refuses, next_answers}
use Rattle.pua_tool.proofs.objects.asked_to.Goals as goal

pub returns-in_err-numbers : goal.returns-in_err-numbers
returns-in_err-numbers g c =
    let done = as_replayed c.args.replay.now in
    let p = err_from_is_err_and c.from_residual.result c.from_residual.ensures.1 in
    rw (p.1, p.2) (first_refuses g.S.Sink.written g.S.Sink.failed (numbers_asked done.world c.args.whose.now)
    (λ numbers. Ok (objects_after c.args.rules done.table done.answers done.world numbers)) c.in_err-numbers.field-0.0 c.args.sink.now c.in_err-numbers.ensures.refused)

pub returns : goal.returns
returns g c =
    let done = as_replayed c.args.replay.now in
    let numbers : List ℕ = c.in_ok-numbers.numbers.items in
    let front : c.as_str.result.now ≡ answer_lines 1 done.answers = c.as_str.ensures.value ∙ c.in_ok-front.ensures ∙
    ap (λ told. answer_lines 1 (map line_seen told)) c.as_slice.ensures.value in
    let listed : lists_text done.world.tree c.in_ok-lists.lists.items ≡ lists_of c.args.rules done.table done.world numbers =
    c.in_ok-lists.ensures ∙ ap (lists_of c.args.rules done.table done.world) c.as_slice-2.ensures.value in
    next_answers g.S.Sink.written g.S.Sink.failed (numbers_asked done.world c.args.whose.now)
    (λ numbers. Ok (objects_after c.args.rules done.table done.answers done.world numbers)) numbers c.put_lists.result c.args.sink.now c.put_lists.new.sink
    c.in_ok-numbers.ensures.asked
    (subst (λ (text : List ℕ). AnswersTo g.S.Sink.written g.S.Sink.failed (Ok text) c.put_lists.result c.args.sink.now c.put_lists.new.sink)
    ((λ i. front i ++ lists_text (c.tree.ensures i) c.in_ok-lists.lists.items) ∙ ap (λ text. answer_lines 1 done.answers ++ text) listed)
    c.put_lists.ensures)
