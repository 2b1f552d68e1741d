use Rattle.pua_calls.proofs.Common.{◌≡◌, ℕ, Bool, get_or, sym, ◌∙◌, calls, Call, Stat}
use Rattle.pua_calls.specs.Calls.{last_of}
use Rattle.pua_calls.specs.CallSets.{is_last}
use Rattle.pua_calls.proofs.CallBits.{bit_of_call_at, Decides, decides_none, decides_taken, decides_left, decides_all}
use Rattle.pua_calls.proofs.calls.Calls.by_last.Goals.{then-is_last, else-is_last}
use Rattle.pua_calls.proofs.calls.Calls.by_last.Goals as goal

pub loop-call-init : goal.loop-call-init
loop-call-init c = decides_none (λ call. is_last c.args.last (last_of call))

pub loop-call-preserved : goal.loop-call-preserved
loop-call-preserved c =
    let f : Call → Bool = λ call. is_last c.args.last (last_of call) in
    let i : ℕ = c.loop-call.call-index in
    let call : Call = get_or calls i Stat in
    let at = bit_of_call_at i c.loop-call-test.true in
    let decided : Decides f c.loop-call.calls i = c.loop-call.invariant in
    let own : f call ≡ c.is_last.result = sym c.is_last.ensures in
    elim c.if-is_last.branch [
      | then-is_last w ↦
          rw w.calls-is (decides_taken f c.loop-call.calls i call at decided w.with-calls.result (own ∙ w.if-is_last.true)
          w.with-calls.ensures.here w.with-calls.ensures.others)
      | else-is_last w ↦ rw w.calls-is (decides_left f c.loop-call.calls i call at decided (own ∙ w.if-is_last.false))
    ]

pub returns : goal.returns
returns c =
    decides_all (λ call. is_last c.args.last (last_of call)) c.loop-call.calls c.loop-call.call-index c.loop-call.invariant
    c.loop-call-test.false
