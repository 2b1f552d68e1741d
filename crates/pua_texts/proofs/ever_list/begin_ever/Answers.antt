use Rattle.pua_texts.proofs.Common.{◌++◌, ◌∙◌, [], ap, subst, sym, Tree}
use Rattle.pua_ever.specs.EverList.{AreEverTold}
use Rattle.pua_ever.specs.ShownForEver.{shown_lasting}
use Rattle.pua_texts.specs.EndingsState.{EndingsState}
use Rattle.pua_texts.specs.EverLines.{heading_ever}
use Rattle.pua_texts.specs.ListLines.{lines_text}
use Rattle.pua_texts.specs.States.{head_lines}
use Rattle.pua_texts.proofs.Outcomes.{if_ok}
use Rattle.pua_texts.proofs.ever_list.begin_ever.Goals as goal

pub returns : goal.returns
returns g c = if_ok c.list_with.result (λ lists are table lasting.
    let t : Tree = g.T.FileTree.content c.args.tree.now in
    let h = c.args.process.now in
    let lines = ap (λ (s : EndingsState). lines_text s [] c.in_ok-lines.lines.items) c.plain-columns.ensures ∙
    c.in_ok-lines.ensures t (shown_lasting t table h)
    (subst (λ rows. AreEverTold t [] rows (shown_lasting t table h) []) (sym c.as_slice.ensures.value) lasting.rows) in
    are ∙ (λ j. head_lines t (heading_ever c.args.rules (lasting.execs j) c.args.number) h ++ lines j)) c.list_with.ensures
