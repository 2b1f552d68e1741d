use Rattle.pua_tool.proofs.Common.{◌≡◌, ◌∙◌, sym, ℕ}
use Rattle.std.proofs.Common.{Bool, get_or}
use Rattle.std.specs.Prelude.{◌&&◌, not}
use Rattle.pua_calls.specs.Calls.{calls}
use Rattle.pua_calls.specs.CallSets.{has}
use Rattle.pua_calls.specs.declared.call.Call.{Call}
use Rattle.pua_calls.specs.declared.call.Call.TheVariants.{Stat}
use Rattle.pua_calls.proofs.ForCallers.{bit_of_call_at, Decides, decides_taken, decides_left}
use Rattle.pua_tool.proofs.columns.without.Goals.{then-is_left, else-is_left}
use Rattle.pua_tool.proofs.columns.without.Goals as goal

pub loop-call-preserved : goal.loop-call-preserved
loop-call-preserved c = record {
  decided =
      let f : Call → Bool = λ call. has c.args.calls call && not (has c.args.others call) in
      let i : ℕ = c.loop-call.call-index in
      let call : Call = get_or calls i Stat in
      let at = bit_of_call_at i c.loop-call-test.true in
      let decided : Decides f c.loop-call.left i = c.loop-call.invariant.decided in
      let own : f call ≡ c.is_left.result = sym c.is_left.ensures in
      elim c.if-is_left.branch [
        | then-is_left w ↦
            let with : c.if-is_left.left ≡ w.with-left.result = w.left-is in
            rw with (decides_taken f c.loop-call.left i call at decided w.with-left.result (own ∙ w.if-is_left.true) w.with-left.ensures.here
            w.with-left.ensures.others)
        | else-is_left w ↦ rw w.left-is (decides_left f c.loop-call.left i call at decided (own ∙ w.if-is_left.false))
      ];
}
