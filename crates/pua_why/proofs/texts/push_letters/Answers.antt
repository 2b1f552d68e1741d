use Rattle.pua_why.proofs.Common.{◌++◌, ap, ◌∙◌, string_bytes, codes, on_ok_weaker}
use Rattle.pua_why.specs.Texts.{letters_text}
use Rattle.pua_why.proofs.Adding.{then_more}
use Rattle.pua_why.proofs.texts.push_letters.Goals as goal

pub returns-clause-text : goal.returns-clause-text
returns-clause-text g c =
    let old = string_bytes c.args.text.now in
    let lacked = c.in_ok-push_str-2.ensures.bytes ∙ ap (λ words. string_bytes c.push_str.new.self ++ words) c.letters.ensures.letters in
    let no_letters = then_more old _ _ (codes "no ") (letters_text c.args.lacks) c.in_ok-push_str.ensures.bytes lacked in
    let before = then_more old _ _ (codes "no " ++ letters_text c.args.lacks) (codes " in ") no_letters c.in_ok-push_str-3.ensures.bytes in
    on_ok_weaker c.push_veil.result (λ so. then_more old _ _ ((codes "no " ++ letters_text c.args.lacks) ++ codes " in ") _ before
    so) c.push_veil.ensures.text
