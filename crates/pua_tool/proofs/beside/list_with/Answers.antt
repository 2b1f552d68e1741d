use Rattle.pua_tool.proofs.Common.{[], List, subst, sym, ProcessState, Tree, if_ok}
use Rattle.pua_policy.specs.States.{is_ended}
use Rattle.pua_ever.specs.EverList.{AreEverTold}
use Rattle.pua_ever.specs.declared.list.EverRow.{EverRow}
use Rattle.pua_texts.specs.ListLines.{list_text}
use Rattle.pua_texts.specs.Members.{named_by}
use Rattle.pua_tool.proofs.BesideTexts.{list_told}
use Rattle.pua_tool.proofs.beside.list_with.Goals as goal

pub returns : goal.returns
returns g c = if_ok c.begin_beside.result (λ list told.
    let t : Tree = g.T.FileTree.content c.args.tree.now in
    let h : ProcessState = c.args.member.now.process.now in
    list_told c.args.rules c.args.table.now t (c.args.member.now.number, h) (named_by c.args.others.now) (is_ended h) c.in_ok-found.found
    (list_text t list) c.in_ok-found.ensures
    (λ lines are. told lines (subst (λ (rows : List EverRow). AreEverTold t [] rows lines []) (sym c.as_slice.ensures.value) are)))
    c.begin_beside.ensures
