use Rattle.pua_texts.proofs.Common.{◌≡◌, ◌++◌, ◌∙◌, [], map, refl, string_bytes, subst, sym, Tree}
use Rattle.pua_texts.specs.EverHowLines.{AreToldWith, lines_with}
use Rattle.pua_texts.specs.EverLines.{heading_ever}
use Rattle.pua_texts.specs.ListLines.{lines_text}
use Rattle.pua_texts.specs.States.{head_lines}
use Rattle.pua_texts.proofs.EverHowLines.{told_with}
use Rattle.pua_texts.proofs.Outcomes.{if_ok}
use Rattle.pua_texts.proofs.ever_list.begin_ever_with.Goals as goal

pub returns : goal.returns
returns g c = if_ok c.list_with.result (λ lists are table told execs told_by.
    let t : Tree = g.T.FileTree.content c.args.tree.now in
    let h = c.args.process.now in
    let texts = map string_bytes c.args.texts.items in
    let lines : lines_text c.of_lines-columns.result [] c.in_ok-lines.lines.items ≡ lines_with t told =
    (λ j. lines_text (c.of_lines-columns.ensures j) [] (c.in_ok-lines.ensures j))
    ∙ told_with t c.as_slice.result.now texts [] texts 0 [] told refl refl
    (subst (λ rows. AreToldWith t [] rows texts told) (sym c.as_slice.ensures.value) told_by) in
    are ∙ (λ j. head_lines t (heading_ever c.args.rules (execs j) c.args.number) h ++ lines j)) c.list_with.ensures
