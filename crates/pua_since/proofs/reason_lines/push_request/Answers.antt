use Rattle.pua_since.proofs.Common.{◌≡◌, ◌++◌, ◌∷◌, [], ◌∙◌, ℕ, List, sym, ap, append_assoc, string_bytes, apply, world_of, Asked}
use Rattle.pua_since.proofs.Common.{reason, date_of, reason_tail, answer_words}
use Rattle.pua_why.proofs.ForCallers.{pushed_so}
use Rattle.pua_since.proofs.reason_lines.push_request.Goals as goal

pub returns : goal.returns
returns g c = pushed_so c.push_str-3.result _ _ _ c.push_str-3.ensures.bytes λ ended told.
    let w = world_of c.args.world.now in
    let table = c.args.world.now.table in
    let asked : (record { process = c.process-process.result; action = c.action-action.result.now }) ≡ c.args.request.now =
    λ i. record { process = c.process-process.ensures.process i; action = c.action-action.ensures.action i } in
    let words : Asked → List ℕ = λ ask. answer_words table w ask ++ reason_tail table w ask (date_of (reason table w ask) c.args.line) in
    ended
    ∙ ap (λ text. text ++ 10 ∷ []) (c.in_ok-push_answer.ensures (told ∙ sym (λ i. (apply table w (asked i)).0))
    ∙ (λ i. string_bytes c.push_str-2.new.self ++ words (asked i))
    ∙ ap (λ text. text ++ words c.args.request.now) (c.in_ok-push_str-2.ensures.bytes ∙ ap (λ text. text ++ 32 ∷ [])
    (c.in_ok-push_str.ensures.bytes ∙ ap (λ text. string_bytes c.args.text.now ++ text) c.format.ensures.text)))
    ∙ simp append_assoc
