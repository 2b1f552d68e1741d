use Rattle.pua_jointly.proofs.Common.{◌∙◌, ◌++◌, [], ap, both_of, flat_map, made_left, None, Option, ProcessState, Some, subst, sym, List}
use Rattle.std.specs.List.{AllByRecursion}
use Rattle.pua_objects.specs.ListItems.{AreNear, IsToldIn, items_told}
use Rattle.pua_ever.specs.EverList.{AreEverTold}
use Rattle.pua_jointly.specs.JointCalls.{HasAgents, IsGroupIn}
use Rattle.pua_jointly.specs.JointList.{joint_lines_of}
use Rattle.pua_jointly.specs.JointPrograms.{now_of}
use Rattle.pua_jointly.specs.declared.agent.Agent.{Agent}
use Rattle.pua_ever.specs.declared.made.Made.TheVariants.{Dir}
use Rattle.pua_jointly.proofs.JointGroups.{group_is, none_missing}
use Rattle.pua_jointly.proofs.JointLines.{lines_first}
use Rattle.pua_jointly.proofs.JointTests.{group_tested}
use Rattle.pua_jointly.proofs.joint_list.list_jointly.Goals as goal

pub returns-in_default-clause-rows : goal.returns-in_default-clause-rows
returns-in_default-clause-rows g c = λ crew given are same among.
    let h = c.args.process.now in
    let agents = c.args.facts.now.crew.agents.items in
    let found : IsGroupIn agents h (now_of c.args.program) c.in_ok-of.field-0 =
    subst (λ (xs : List Agent). IsGroupIn xs h (now_of c.args.program) c.in_ok-of.field-0) c.deref.ensures.value c.in_ok-of.ensures in
    absurd (none_missing agents h given
    (subst (λ (o : Option ProcessState). IsGroupIn agents h o None) same (subst (IsGroupIn agents h (now_of c.args.program)) c.in_default.is found))
    (λ agent has. are.members.there agent (among agent has)))

pub returns-clause-rows : goal.returns-clause-rows
returns-clause-rows g c = λ crew given are one among.
    let t = g.T.FileTree.content c.args.tree.now in
    let table = c.args.table.now in
    let h = c.args.process.now in
    let facts = c.args.facts.now in
    let of = c.in-Some.of in
    let agents = facts.crew.agents.items in
    let found : IsGroupIn agents h (now_of c.args.program) c.in_ok-of.field-0 =
    subst (λ (xs : List Agent). IsGroupIn xs h (now_of c.args.program) c.in_ok-of.field-0) c.deref.ensures.value c.in_ok-of.ensures in
    let is : HasAgents t table crew facts h given of =
    group_is t table crew facts h given of are
    (subst (λ (o : Option ProcessState). IsGroupIn agents h o (Some of)) one (subst (IsGroupIn agents h (now_of c.args.program)) c.in-Some.is found)) in
    let tested = group_tested t table crew facts are h given among in
    let test = tested.0 in
    let same = c.deref-2.ensures.value in
    let listed = c.in-Ok.ensures in (
      test,
      tested.1,
      subst (λ lines. AreEverTold t [] c.add_made.new.rows.items lines [])
          (ap (λ xs. joint_lines_of test h (flat_map both_of xs ++ made_left (Some Dir)))
          (ap (items_told t []) same ∙ listed.items) ∙ lines_first t table crew h given test tested.1)
          (c.in-Ok-add_made.ensures.told t crew h given test c.deref-2.result.now is tested.1
          (c.in-Ok-rows_of.ensures.told t crew h given test are.worked.0 is tested.1
          (subst (AllByRecursion (IsToldIn t h)) (sym same) listed.told) (subst (AreNear []) (sym same) listed.near))),
    )

pub returns-clause-items : goal.returns-clause-items
returns-clause-items g c =
    let t = g.T.FileTree.content c.args.tree.now in
    let h = c.args.process.now in
    c.in-Ok-add_made.ensures.items t h
    (c.in-Ok-rows_of.ensures.items t c.known.ensures (subst (AllByRecursion (IsToldIn t h)) (sym c.deref-2.ensures.value) c.in-Ok.ensures.told))
