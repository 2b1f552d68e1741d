use Rattle.pua_tool.proofs.Common.{◌∙◌, ◌∷◌, ◌++◌, [], ℕ, List, ap, arith, map, subst, sym, ProcessState, Tree}
use Rattle.std.proofs.Common.{take, take_all}
use Rattle.std.proofs.lemmas.List.{map-append}
use Rattle.pua_texts.specs.ListLines.{ListState, list_text}
use Rattle.pua_texts.specs.Members.{named_by}
use Rattle.pua_texts.specs.declared.members.Member.{Member}
use Rattle.pua_tool.specs.BesideTexts.{AreBesideLists}
use Rattle.pua_tool.proofs.BesideFound.{named_more}
use Rattle.pua_tool.proofs.BesideTexts.{lists_more}
use Rattle.pua_tool.proofs.beside.lists_of.Goals as goal

pub loop-member-init : goal.loop-member-init
loop-member-init g c =
    let t : Tree = g.T.FileTree.content c.args.tree.now in
    subst (λ (lists : List ListState). AreBesideLists c.args.rules c.args.table.now t (named_by c.args.helpers.now) [] (map (list_text t) lists))
    (sym c.new-lists.ensures.items) tt

pub loop-member-preserved : goal.loop-member-preserved
loop-member-preserved g c =
    let t : Tree = g.T.FileTree.content c.args.tree.now in
    let members : List Member = c.args.members.now in
    let item : Member = c.member-item.result in
    let helpers = named_by c.args.helpers.now in
    let old : List ListState = c.loop-member.lists.items in
    let list : ListState = c.in_ok-list.list in
    let texts : List (List ℕ) = map (list_text t) c.push_back.new.self.items in
    subst (λ (named : List (ℕ × ProcessState)). AreBesideLists c.args.rules c.args.table.now t helpers named texts)
    (sym (named_more members c.loop-member.member-index item c.loop-member-test.true c.member-item.is))
    (subst
    (AreBesideLists c.args.rules c.args.table.now t helpers
    (named_by (take c.loop-member.member-index members) ++ (item.number, item.process.now) ∷ []))
    (sym (ap (map (list_text t)) c.in_ok-push_back.ensures.items ∙ map-append (list_text t) old (list ∷ [])))
    (lists_more c.args.rules c.args.table.now t helpers (named_by (take c.loop-member.member-index members)) (map (list_text t) old)
    (item.number, item.process.now) (list_text t list) c.loop-member.invariant c.in_ok-list.ensures))

pub returns : goal.returns
returns g c =
    let t : Tree = g.T.FileTree.content c.args.tree.now in
    subst (λ (members : List Member). AreBesideLists c.args.rules c.args.table.now t (named_by c.args.helpers.now) (named_by members)
    (map (list_text t) c.loop-member.lists.items))
    (take_all c.loop-member.member-index c.args.members.now (omega (arith, c.loop-member-test.false))) c.loop-member.invariant
