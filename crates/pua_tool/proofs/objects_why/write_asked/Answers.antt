use Rattle.pua_tool.proofs.Common.{◌++◌, ◌∙◌, Ok, List, ℕ, sym, subst, world_of, err_from_is_err_and, AnswersTo}
use Rattle.pua_texts.specs.WhyLines.{why_lists_of, world_left}
use Rattle.pua_tool.specs.ObjectTexts.{numbers_asked}
use Rattle.pua_tool.specs.TwoWorlds.{as_served}
use Rattle.pua_tool.specs.WhyTexts.{reason_lines}
use Rattle.pua_tool.proofs.TextAnswers.{first_refuses, next_answers}
use Rattle.pua_tool.proofs.objects_why.write_asked.Goals as goal

pub returns-in_err-numbers : goal.returns-in_err-numbers
returns-in_err-numbers g c =
    let q = as_served c.args.worlds.now in
    let p = err_from_is_err_and c.from_residual.result c.from_residual.ensures.1 in
    rw (p.1, p.2) (λ read is. first_refuses g.S.Sink.written g.S.Sink.failed (numbers_asked (world_left q) c.args.whose.now)
    (λ numbers. Ok (reason_lines q ++ why_lists_of c.args.rules q numbers)) c.in_err-numbers.field-0.0 c.args.sink.now
    (λ other. (λ i. numbers_asked (world_of (sym is.after i)) c.args.whose.now) ∙ c.in_err-numbers.ensures.refused other))

pub returns : goal.returns
returns g c = λ read is.
    let q = as_served c.args.worlds.now in
    let numbers : List ℕ = c.in_ok-numbers.numbers.items in
    next_answers g.S.Sink.written g.S.Sink.failed (numbers_asked (world_left q) c.args.whose.now)
    (λ numbers. Ok (reason_lines q ++ why_lists_of c.args.rules q numbers)) numbers c.write_all.result c.args.sink.now c.write_all.new.sink
    ((λ i. numbers_asked (world_of (sym is.after i)) c.args.whose.now) ∙ c.in_ok-numbers.ensures.asked)
    (subst (λ (lent : List ℕ). AnswersTo g.S.Sink.written g.S.Sink.failed (Ok (reason_lines q ++ why_lists_of c.args.rules q lent))
    c.write_all.result c.args.sink.now c.write_all.new.sink) c.as_slice.ensures.value (c.write_all.ensures read is))
