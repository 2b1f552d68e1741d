use Rattle.pua_texts.proofs.Common.{◌≡◌, ◌++◌, ◌∙◌, [], Tree}
use Rattle.pua_texts.specs.EverLines.{heading_ever}
use Rattle.pua_texts.specs.ListLines.{lines_text, lists_text}
use Rattle.pua_texts.specs.States.{head_lines}
use Rattle.pua_texts.proofs.ListLines.{list_headed}
use Rattle.pua_texts.proofs.Outcomes.{if_ok}
use Rattle.pua_texts.proofs.ever_list.list_with.Goals as goal

pub returns : goal.returns
returns g c =
    let t : Tree = g.T.FileTree.content c.args.tree.now in
    let heading = heading_ever c.args.rules c.args.list.now.execs c.args.number in
    let lines = c.args.lines.items in
    if_ok {Q = λ lists. lists_text t lists.items ≡ head_lines t heading c.args.process.now ++ lines_text c.args.columns [] lines} c.alone.result
    (λ lists are.
    are t ∙ list_headed t _ c.in_ok-head.head lines c.args.columns heading c.args.process.now c.in_ok-new.ensures c.in_ok-head.ensures)
    c.alone.ensures
