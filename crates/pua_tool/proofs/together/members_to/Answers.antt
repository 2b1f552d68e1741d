use Rattle.pua_tool.proofs.Common.{◌∙◌, Ok, List, ap, sym, err_from_is_err_and, as_replayed}
use Rattle.pua_texts.specs.Members.{named_by}
use Rattle.pua_texts.specs.declared.members.Member.{Member}
use Rattle.pua_tool.specs.TogetherTexts.{all_made, numbers_in, together_of}
use Rattle.pua_tool.proofs.TextAnswers.{first_refuses, next_answers}
use Rattle.pua_tool.proofs.together.members_to.Goals as goal

pub returns-in_err-members : goal.returns-in_err-members
returns-in_err-members g c =
    let done = as_replayed c.args.replay.now in
    let p = err_from_is_err_and c.from_residual.result c.from_residual.ensures.1 in
    rw (p.1, p.2) (first_refuses g.S.Sink.written g.S.Sink.failed (all_made done.world (numbers_in done.world c.args.whose.now))
    (together_of c.args.rules done) c.in_err-members.field-0.0 c.args.sink.now
    c.in_err-members.ensures.refused)

pub returns : goal.returns
returns g c =
    let done = as_replayed c.args.replay.now in
    next_answers g.S.Sink.written g.S.Sink.failed (all_made done.world (numbers_in done.world c.args.whose.now)) (together_of c.args.rules done)
    (named_by c.as_slice.result.now) c.list_to.result c.args.sink.now c.list_to.new.sink
    (c.in_ok-members.ensures.made ∙ ap (λ (members : List Member). Ok (named_by members)) (sym c.as_slice.ensures.value)) c.list_to.ensures
