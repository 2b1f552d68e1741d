use Rattle.std.proofs.Common.{◌∙◌, ap}
use Rattle.std.specs.Prelude.{bit_or}
use Rattle.pua_calls.specs.Calls.{calls, rule_of}
use Rattle.pua_calls.specs.declared.call.Call.TheVariants.{Stat}
use Rattle.pua_tight.specs.Tight.{union}
use Rattle.pua_tight.proofs.PromisesTogether.{gathered_call}
use Rattle.pua_tight.proofs.asked.called.Goals as goal

pub loop-call-preserved : goal.loop-call-preserved
loop-call-preserved c =
    c.with_sets-asked.ensures ∙ ap (λ l. bit_or (union l) c.loop-call.asked) c.alternatives.ensures
    ∙ gathered_call (λ call. (rule_of c.args.table.now call).alternatives) calls c.loop-call.call-index Stat c.loop-call.asked c.loop-call-test.true
    c.loop-call.invariant
