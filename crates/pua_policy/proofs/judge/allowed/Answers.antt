use Rattle.pua_policy.proofs.Common.{◌≡◌, ℕ, Bool, sym, ◌∙◌, Call}
use Rattle.std.proofs.Common.{get_or}
use Rattle.pua_calls.specs.Calls.{calls}
use Rattle.pua_policy.specs.Verdict.{covered_verdict, is_allowed}
use Rattle.pua_calls.specs.declared.call.Call.TheVariants.{Stat}
use Rattle.pua_calls.proofs.ForCallers.{bit_of_call_at, Decides, decides_none, decides_taken, decides_left, decides_all}
use Rattle.pua_policy.proofs.judge.allowed.Goals.{then-allows, else-allows}
use Rattle.pua_policy.proofs.judge.allowed.Goals as goal

pub loop-call-init : goal.loop-call-init
loop-call-init c = record {
  decided = λ t judged seen. decides_none (λ call. is_allowed (covered_verdict t c.args.table.now c.args.process.now call c.args.cover judged));
}

pub loop-call-preserved : goal.loop-call-preserved
loop-call-preserved c = record {
  decided = λ t judged seen.
      let f : Call → Bool = λ call. is_allowed (covered_verdict t c.args.table.now c.args.process.now call c.args.cover judged) in
      let i : ℕ = c.loop-call.call-index in
      let call : Call = get_or calls i Stat in
      let at = bit_of_call_at i c.loop-call-test.true in
      let decided : Decides f c.loop-call.calls i = c.loop-call.invariant.decided t judged seen in
      let own : f call ≡ c.allows.result = sym (c.allows.ensures t judged seen) in
      elim c.if-allows.branch [
        | then-allows w ↦
            let with : c.if-allows.calls ≡ w.with-calls.result = w.calls-is in
            rw with (decides_taken f c.loop-call.calls i call at decided w.with-calls.result (own ∙
            w.if-allows.true) w.with-calls.ensures.here w.with-calls.ensures.others)
        | else-allows w ↦ rw w.calls-is (decides_left f c.loop-call.calls i call at decided (own ∙ w.if-allows.false))
      ];
}

pub returns : goal.returns
returns c = λ t judged seen.
    decides_all (λ call. is_allowed (covered_verdict t c.args.table.now c.args.process.now call c.args.cover judged)) c.loop-call.calls
    c.loop-call.call-index (c.loop-call.invariant.decided t judged seen) c.loop-call-test.false
