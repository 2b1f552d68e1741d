use Rattle.pua_texts.proofs.Common.{◌≡◌, ◌++◌, ap, ◌∙◌, refl, string_bytes, codes, with_end}
use Rattle.pua_policy.specs.States.{held_for_exec, pledged_set}
use Rattle.pua_texts.specs.States.{pledged_text, rules_line, unveil_word}
use Rattle.pua_texts.proofs.Outcomes.{ok_text}
use Rattle.pua_texts.proofs.States.{text_more}
use Rattle.pua_texts.proofs.state.push_held.Goals as goal

pub returns : goal.returns
returns c =
    let h = c.args.process.now in
    let old = string_bytes c.args.text.now in
    let ruled = string_bytes c.push_rules.new.text in
    let promised = string_bytes c.push_line.new.text in
    let handed = string_bytes c.push_line-2.new.text in
    let promises = with_end (codes "promises " ++ pledged_text (pledged_set h)) in
    let for_exec = with_end (codes "execpromises " ++ pledged_text (held_for_exec h)) in
    let unveils = with_end (codes "unveil " ++ unveil_word h) in
    let promised_is : promised ≡ ruled ++ promises = c.in_ok-push_line.ensures
    ∙ ap (λ t. ruled ++ with_end (codes "promises " ++ t))
    (c.as_str.ensures.value ∙ c.in_ok-promises.ensures ∙ ap pledged_text (c.promises.ensures.state)) in
    let handed_is : handed ≡ promised ++ for_exec = c.in_ok-push_line-2.ensures
    ∙ ap (λ t. promised ++ with_end (codes "execpromises " ++ t))
    (c.as_str-2.ensures.value ∙ c.in_ok-execpromises.ensures ∙ ap pledged_text (c.execpromises.ensures.state)) in
    ok_text c.push_line-3.result (string_bytes c.push_line-3.new.text)
    (ap (λ t. handed ++ with_end (codes "unveil " ++ t)) c.unveil_state.ensures ∙ text_more old _ unveils handed _
    (text_more old _ for_exec promised handed (text_more old (rules_line c.args.rules) promises ruled promised c.in_ok-push_rules.ensures
    promised_is) handed_is) refl) c.push_line-3.ensures
