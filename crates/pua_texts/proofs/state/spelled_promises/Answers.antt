use Rattle.pua_texts.proofs.Common.{◌++◌, ap, sym, ◌∙◌}
use Rattle.pua_why.specs.Texts.{promises_text}
use Rattle.pua_texts.specs.States.{pledged_text}
use Rattle.pua_texts.proofs.States.{promises_are}
use Rattle.pua_texts.proofs.state.spelled_promises.Goals as goal

pub returns : goal.returns
returns c =
    c.in_ok-push_promises.ensures ∙ ap (λ text. text ++ promises_text c.in-Some.promises) c.new-text.ensures.bytes
    ∙ promises_are c.in-Some.promises ∙ ap pledged_text (sym c.in-Some.is)
