use Rattle.pua_why.proofs.Common.{[], ◌∷◌, ◌++◌, ◌∙◌, ◌+◌, arith, refl, ap, take}
use Rattle.std.proofs.lemmas.List.{take_all}
use Rattle.pua_why.proofs.ToldAnswers.{told_next}
use Rattle.pua_script.specs.Worlds.{state_after_all, world_of}
use Rattle.std.proofs.lemmas.Result.{err_from_is_err_and}
use Rattle.pua_why.specs.Openings.{ServesFirst, told_to}
use Rattle.pua_why.proofs.opened.run_told.Goals as goal

pub loop-request-preserved : goal.loop-request-preserved
loop-request-preserved g c =
    told_next c.args.world.now c.loop-request.world c.serve_told.new.world c.requests-requests.result.now c.loop-request.request-index
    c.loop-request.answers.items c.push.new.self.items c.in_ok-told.told c.request-item.result c.loop-request-test.true c.request-item.is
    c.in_ok-push.ensures.items c.loop-request.invariant c.in_ok-told.ensures.told c.in_ok-told.ensures.left

pub returns-clause-told : goal.returns-clause-told
returns-clause-told g c =
    let all = take_all c.loop-request.request-index c.requests-requests.result.now (omega (arith, c.loop-request-test.false)) in
    c.loop-request.invariant.0
    ∙ ap (told_to c.args.world.now.table (world_of c.args.world.now)) (all ∙ c.requests-requests.ensures)

pub returns-clause-left : goal.returns-clause-left
returns-clause-left g c =
    let all = take_all c.loop-request.request-index c.requests-requests.result.now (omega (arith, c.loop-request-test.false)) in
    c.loop-request.invariant.1 ∙ ap (state_after_all c.args.world.now) (all ∙ c.requests-requests.ensures)

pub returns-in_err-answers-clause-in_part : goal.returns-in_err-answers-clause-in_part
returns-in_err-answers-clause-in_part g c =
    let part : ServesFirst c.args.world.now c.args.script.now c.args.world.now = (0, refl) in
    let p = err_from_is_err_and c.from_residual.result c.from_residual.ensures.1 in
    rw p.1 part

pub returns-in_err-told-clause-in_part : goal.returns-in_err-told-clause-in_part
returns-in_err-told-clause-in_part g c =
    let i = c.loop-request.request-index in
    let part : ServesFirst c.args.world.now c.args.script.now c.serve_told.new.world = (
      i,
      c.in_err-told.ensures.unchanged ∙ c.loop-request.invariant.1
          ∙ ap (λ asks. state_after_all c.args.world.now (take i asks)) c.requests-requests.ensures,
    ) in
    let p = err_from_is_err_and c.from_residual-in_err-told.result c.from_residual-in_err-told.ensures.1 in
    rw p.1 part

pub returns-in_err-push-clause-in_part : goal.returns-in_err-push-clause-in_part
returns-in_err-push-clause-in_part g c =
    let i = c.loop-request.request-index in
    let next = told_next c.args.world.now c.loop-request.world c.serve_told.new.world c.requests-requests.result.now i
    c.loop-request.answers.items (c.loop-request.answers.items ++ c.in_ok-told.told ∷ []) c.in_ok-told.told c.request-item.result
    c.loop-request-test.true c.request-item.is refl c.loop-request.invariant c.in_ok-told.ensures.told c.in_ok-told.ensures.left in
    let part : ServesFirst c.args.world.now c.args.script.now c.serve_told.new.world =
    (i + 1, next.1 ∙ ap (λ asks. state_after_all c.args.world.now (take (i + 1) asks)) c.requests-requests.ensures) in
    let p = err_from_is_err_and c.from_residual-in_err-push.result c.from_residual-in_err-push.ensures.1 in
    rw p.1 part
