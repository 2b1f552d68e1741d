use Rattle.pua_why.proofs.Common.{◌++◌, ap, ◌∙◌, string_bytes, on_ok_weaker}
use Rattle.pua_why.specs.Texts.{spot_text}
use Rattle.pua_why.proofs.Adding.{then_more}
use Rattle.pua_why.proofs.texts.push_link.Goals as goal

pub returns-clause-text : goal.returns-clause-text
returns-clause-text g c =
    let begun = then_more _ _ _ _ _ (c.in_ok-push_str.ensures.bytes ∙
    ap (λ words. string_bytes c.args.text.now ++ words) c.side_word.ensures) c.in_ok-push_str-2.ensures.bytes in
    on_ok_weaker c.push_led.result
    (λ led is. then_more _ _ _ _ _
    (then_more _ _ _ _ _ (then_more _ _ _ _ _ begun (c.in_ok-push_spot.ensures.text ∙
    ap (λ t. string_bytes c.push_str-2.new.self ++ spot_text t c.args.spot.now) is))
    c.in_ok-push_str-3.ensures.bytes) led) c.push_led.ensures
