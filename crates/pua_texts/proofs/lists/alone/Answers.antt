use Rattle.pua_texts.proofs.Common.{◌++◌, ◌∷◌, ◌∙◌, [], ap, append-nil}
use Rattle.pua_texts.specs.ListLines.{list_text, lists_text}
use Rattle.pua_texts.proofs.lists.alone.Goals as goal

pub returns : goal.returns
returns c = λ t.
    ap (lists_text t) (c.in_ok-push_back.ensures.items ∙ ap (λ lists. lists ++ c.args.list ∷ []) c.new-lists.ensures.items)
    ∙ append-nil (list_text t c.args.list)
