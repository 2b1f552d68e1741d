use Rattle.std.proofs.Common.{◌∙◌, ap}
use Rattle.std.specs.Prelude.{bit_or}
use Rattle.pua_tight.specs.Tight.{union, used_by}
use Rattle.pua_tight.proofs.PromisesTogether.{gathered_next}
use Rattle.pua_tight.proofs.asked.all_used.Goals as goal

pub loop-request-preserved : goal.loop-request-preserved
loop-request-preserved c =
    c.with_used-used.ensures ∙ ap (λ action. bit_or (union (used_by action)) c.loop-request.used) c.action.ensures.action
    ∙ gathered_next (λ ask. used_by ask.action) c.args.requests.now c.loop-request.request-index c.request-item.result c.loop-request.used
    c.loop-request-test.true c.request-item.is c.loop-request.invariant
