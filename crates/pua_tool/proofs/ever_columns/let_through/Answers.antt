use Rattle.pua_tool.proofs.Common.{◌≡◌, ◌∙◌, sym, ap, ℕ}
use Rattle.std.proofs.Common.{Bool, get_or}
use Rattle.pua_calls.specs.Calls.{calls, rule_of}
use Rattle.pua_calls.specs.Promises.{holds}
use Rattle.pua_calls.specs.declared.call.Call.{Call}
use Rattle.pua_calls.specs.declared.call.Call.TheVariants.{Stat}
use Rattle.pua_calls.proofs.ForCallers.{bit_of_call_at, Decides, decides_taken, decides_left}
use Rattle.pua_tool.proofs.ever_columns.let_through.Goals.{then-contains, else-contains}
use Rattle.pua_tool.proofs.ever_columns.let_through.Goals as goal

pub loop-call-preserved : goal.loop-call-preserved
loop-call-preserved c = record {
  decided =
      let f : Call → Bool = λ call. holds c.args.perms (rule_of c.args.table.now call).perms in
      let i : ℕ = c.loop-call.call-index in
      let call : Call = get_or calls i Stat in
      let at = bit_of_call_at i c.loop-call-test.true in
      let decided : Decides f c.loop-call.lets i = c.loop-call.invariant.decided in
      let own : f call ≡ c.contains.result = sym (c.contains.ensures ∙ ap (holds c.args.perms) c.perms.ensures) in
      elim c.if-contains.branch [
        | then-contains w ↦
            let with : c.if-contains.lets ≡ w.with-lets.result = w.lets-is in
            rw with (decides_taken f c.loop-call.lets i call at decided w.with-lets.result (own ∙ w.if-contains.true) w.with-lets.ensures.here
            w.with-lets.ensures.others)
        | else-contains w ↦ rw w.lets-is (decides_left f c.loop-call.lets i call at decided (own ∙ w.if-contains.false))
      ];
}
