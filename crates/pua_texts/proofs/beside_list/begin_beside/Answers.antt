use Rattle.pua_texts.proofs.Common.{◌≡◌, ◌++◌, ◌∙◌, [], ap, veil_lines, ever_lines, Tree}
use Rattle.pua_texts.specs.BesideLines.{beside_heading, beside_own}
use Rattle.pua_texts.specs.EndingsState.{EndingsState}
use Rattle.pua_texts.specs.Members.{beside_of}
use Rattle.pua_texts.specs.States.{kept_lines}
use Rattle.pua_texts.specs.ListLines.{head_text, lines_text, list_text}
use Rattle.pua_texts.proofs.Outcomes.{if_ok}
use Rattle.pua_texts.proofs.beside_list.begin_beside.Goals as goal

pub returns : goal.returns
returns g c = if_ok c.new.result (λ list is told are.
    let t : Tree = g.T.FileTree.content c.args.tree.now in
    let b = beside_of c.args.helped.now in
    let lines : lines_text c.plain.result [] c.in_ok-lines.lines.items ≡ ever_lines t told =
    ap (λ (s : EndingsState). lines_text s [] c.in_ok-lines.lines.items) c.plain.ensures ∙ c.in_ok-lines.ensures t told are in
    ap (list_text t) is
    ∙ (λ i. head_text t (c.of-head.ensures i) ++ lines_text c.plain.result [] c.in_ok-lines.lines.items)
    ∙ (λ i. (c.in_ok-text.ensures i ++ (veil_lines t (c.in_ok-veils.ensures i) ++ c.in_ok-files.ensures i)) ++ lines i)
    ∙ ap (λ root. ((beside_heading b ++ beside_own c.args.rules root b) ++ kept_lines t b.process) ++ ever_lines t told)
    (c.as_str.ensures.value ∙ c.in_ok-root.ensures))
    c.new.ensures
