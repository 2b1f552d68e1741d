use Rattle.pua_why.proofs.Common.{◌++◌, ap, ◌∙◌, map, string_bytes, codes, joined_words}
use Rattle.pua_why.specs.Texts.{or_equals}
use Rattle.pua_why.proofs.Adding.{promises_are, pushed_so}
use Rattle.pua_why.proofs.texts.push_promises.Goals as goal

pub returns : goal.returns
returns c =
    pushed_so c.push_str.result _ _ _ c.push_str.ensures.bytes (λ more.
    more
    ∙ ap (λ keywords. string_bytes c.args.text.now ++ keywords)
    (promises_are c.args.promises (map (λ name. name.now) c.in-Ok.names.items) (string_bytes c.in_ok-keywords.keywords) c.shown.result.now
    c.in-Ok.ensures
    (c.in_ok-keywords.ensures ∙ ap (λ names. joined_words (codes ",") (map (λ name. name.now) names)) c.as_slice.ensures.value)
    (c.shown.ensures ∙ ap or_equals c.as_str.ensures.value)))
