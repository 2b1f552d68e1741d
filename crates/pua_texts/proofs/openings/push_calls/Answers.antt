use Rattle.pua_texts.proofs.Common.{◌∷◌, ◌++◌, ◌+◌, [], if◌then◌else◌, map, sym, ap, ◌∙◌, arith, string_bytes, call_name}
use Rattle.pua_texts.proofs.ObjectLines.{joined_is}
use Rattle.pua_texts.proofs.OpeningLines.{call_next, calls_done, calls_left}
use Rattle.pua_texts.proofs.openings.push_calls.Goals as goal

pub loop-call-preserved : goal.loop-call-preserved
loop-call-preserved c =
    let calls = c.args.calls.now in
    let i = c.loop-call.call-index in
    ap (λ text. text ++ calls_left (44 ∷ []) calls (i + 1)) c.in_ok-push_call.ensures
    ∙ sym (call_next (if c.loop-call.is_first then [] else 44 ∷ []) (string_bytes c.loop-call.text) calls i _ c.loop-call-test.true)
    ∙ c.loop-call.invariant

pub returns : goal.returns
returns c =
    let calls = c.args.calls.now in
    sym (calls_done (if c.loop-call.is_first then [] else 44 ∷ []) (string_bytes c.loop-call.text) calls c.loop-call.call-index
    (omega (arith, c.loop-call-test.false)))
    ∙ c.loop-call.invariant
    ∙ ap (λ names. string_bytes c.args.text.now ++ names) (sym (joined_is (map call_name calls)))
