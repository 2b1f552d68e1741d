use Rattle.pua_policy.proofs.Common.{◌≡◌, ℕ, Bool, sym, ap, ◌∙◌, Call, holds, rule_of}
use Rattle.std.proofs.Common.{get_or}
use Rattle.pua_calls.specs.Calls.{calls}
use Rattle.pua_calls.specs.declared.call.Call.TheVariants.{Stat}
use Rattle.pua_calls.proofs.ForCallers.{bit_of_call_at, Decides, decides_taken, decides_left}
use Rattle.pua_policy.proofs.allowed_calls.calls_within.Goals.{then-permits, else-permits}
use Rattle.pua_policy.proofs.allowed_calls.calls_within.Goals as goal

pub loop-call-preserved : goal.loop-call-preserved
loop-call-preserved c = record {
  decided =
      let f : Call → Bool = λ call. holds c.args.perms (rule_of c.args.table.now call).perms in
      let i : ℕ = c.loop-call.call-index in
      let call : Call = get_or calls i Stat in
      let at = bit_of_call_at i c.loop-call-test.true in
      let decided : Decides f c.loop-call.calls i = c.loop-call.invariant.decided in
      let own : f call ≡ c.permits.result = ap (holds c.args.perms) (sym c.perms.ensures) ∙ sym c.permits.ensures in
      elim c.if-permits.branch [
        | then-permits w ↦
            let with : c.if-permits.calls ≡ w.with-calls.result = w.calls-is in
            rw with (decides_taken f c.loop-call.calls i call at decided w.with-calls.result (own ∙
            w.if-permits.true) w.with-calls.ensures.here w.with-calls.ensures.others)
        | else-permits w ↦ rw w.calls-is (decides_left f c.loop-call.calls i call at decided (own ∙ w.if-permits.false))
      ];
}
