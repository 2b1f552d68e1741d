use Rattle.pua_script.proofs.Common.{◌+◌, ◌∷◌, ◌++◌, ◌∙◌, [], refl, take, arith, subst, AreDone}
use Rattle.std.proofs.lemmas.List.{take_all}
use Rattle.std.proofs.lemmas.Result.{err_from_is_err_and}
use Rattle.pua_script.specs.Futures.{AreDoneInPart}
use Rattle.pua_script.proofs.WorldsLeft.{done_before, done_next}
use Rattle.pua_script.proofs.world.World.serve_each.Goals as goal

pub returns-in_err-answer : goal.returns-in_err-answer
returns-in_err-answer g c =
    let part : AreDoneInPart c.args.self.now c.args.script.now c.apply.new.self =
    done_before _ c.loop-request.self _ _ c.requests-requests.result.now c.loop-request.request-index _ c.requests-requests.ensures
    c.in_err-answer.ensures.unchanged c.loop-request.invariant in
    let p = err_from_is_err_and c.from_residual.result c.from_residual.ensures.1 in
    rw p.1 part

pub returns-in_default-push : goal.returns-in_default-push
returns-in_default-push g c =
    let next : AreDone c.args.self.now (take (c.loop-request.request-index + 1) c.requests-requests.result.now)
    (c.loop-request.answers.items ++ c.in_ok-answer.answer ∷ []) c.apply.new.self =
    done_next _ _ _ c.requests-requests.result.now c.loop-request.request-index _ _ c.request-item.result c.in_ok-answer.answer
    c.loop-request-test.true c.request-item.is refl c.in_ok-answer.ensures.tree c.loop-request.invariant c.in_ok-answer.ensures.served
    in
    done_before _ c.apply.new.self _ _ c.requests-requests.result.now (c.loop-request.request-index + 1) _ c.requests-requests.ensures refl
    next

pub loop-request-preserved : goal.loop-request-preserved
loop-request-preserved g c =
    done_next _ _ _ c.requests-requests.result.now c.loop-request.request-index _ _ c.request-item.result c.in_ok-answer.answer
    c.loop-request-test.true c.request-item.is c.in-Ok-push.ensures.items
    c.in_ok-answer.ensures.tree c.loop-request.invariant c.in_ok-answer.ensures.served

pub returns : goal.returns
returns g c =
    let past = c.loop-request-test.false in
    let all = take_all c.loop-request.request-index c.requests-requests.result.now (omega (arith, past)) in
    subst (λ asks. AreDone c.args.self.now asks c.loop-request.answers.items c.loop-request.self) (all ∙
    c.requests-requests.ensures) c.loop-request.invariant
