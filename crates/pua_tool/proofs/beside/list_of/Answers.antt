use Rattle.pua_tool.proofs.Common.{◌∙◌, ℕ, List, ap, subst, ProcessState, Tree, if_ok}
use Rattle.pua_policy.specs.States.{is_ended}
use Rattle.pua_texts.specs.ListLines.{list_text}
use Rattle.pua_texts.specs.Members.{named_by}
use Rattle.pua_tool.specs.BesideTexts.{IsBesideBy}
use Rattle.pua_tool.proofs.beside.list_of.Goals as goal

pub returns : goal.returns
returns g c = if_ok c.list_with.result (λ list is.
    let t : Tree = g.T.FileTree.content c.args.tree.now in
    let h : ProcessState = c.args.member.now.process.now in
    subst (λ (others : List (ℕ × ProcessState)). IsBesideBy c.args.rules c.args.table.now t (is_ended h) others (c.args.member.now.number, h)
    (list_text t list)) (ap named_by c.as_slice.ensures.value ∙ c.in_ok-others.ensures) is) c.list_with.ensures
