use Rattle.pua_jointly.proofs.Common.{◌≡◌, ◌<◌, ◌≤◌, ◌∷◌, ◌++◌, [], sym, ap, subst, ◌∙◌, arith, length, take, flat_map, Some, both_of, made_left}
use Rattle.std.proofs.Common.{◌+◌, add-one, drop, drop_of_length-le}
use Rattle.std.proofs.Math.Seq.{take-suc}
use Rattle.std.proofs.lemmas.List.{drop_more}
use Rattle.pua_objects.specs.ListItems.{IsToldIn, items_told, last_word}
use Rattle.pua_objects.specs.declared.list.ListItem.{ListItem}
use Rattle.pua_ever.specs.EverList.{AreEverTold}
use Rattle.pua_jointly.specs.JointList.{AreJointSoFar, joint_lines_of}
use Rattle.pua_ever.specs.declared.made.Made.TheVariants.{Dir}
use Rattle.pua_ever.proofs.ForCallers.{near_at, told_at}
use Rattle.pua_jointly.specs.JointSetting.{IsEntryOf}
use Rattle.pua_jointly.proofs.JointGroups.{own_of}
use Rattle.pua_jointly.proofs.joint_list.rows_of.Goals as goal

pub loop-item-preserved : goal.loop-item-preserved
loop-item-preserved c = record {
  told = λ t crew a given test fits is tells all near.
      let items = c.args.items.now in
      let i = c.loop-item.item-index in
      let item = c.item-item.result in
      let rows = c.loop-item.rows.items in
      let within : i < length items = c.loop-item-test.true in
      let now : AreJointSoFar t a test items (take i items) (item ∷ drop (i + 1) items) rows =
      subst (λ left. AreJointSoFar t a test items (take i items) left rows)
      (drop_more items i item within ∙ ap (λ x. x ∷ drop (i + 1) items) (sym c.item-item.is))
      (c.loop-item.invariant.told t crew a given test fits is tells all near) in
      let taken : take (i + 1) items ≡ take i items ++ item ∷ [] =
      ap (λ n. take n items) (add-one i) ∙ take-suc items i item within ∙ ap (λ x. take i items ++ x ∷ []) (sym c.item-item.is) in
      let here : IsToldIn t a item = subst (IsToldIn t a) (sym c.item-item.is) (told_at (IsToldIn t a) items i item all within) in
      let there : IsEntryOf c.args.facts.now.crew.entries.items item.item.subject c.entry_of-entry.result =
      c.entry_of-entry.ensures (own_of t c.args.table.now crew a c.args.facts.now c.args.of.now given is).facts_are.worked.1.in_order in
      let close : item.depth ≤ length (last_word [] (take i items)) =
      subst (λ (x : ListItem). x.depth ≤ length (last_word [] (take i items))) (sym c.item-item.is) (near_at [] items i item near within) in
      subst (λ so_far. AreJointSoFar t a test items so_far (drop (i + 1) items) c.add_rows.new.rows.items) (sym taken)
      (c.in_ok-add_rows.ensures.told t crew a given test items (take i items) (drop (i + 1) items) fits is tells there here close now);
  items = λ t fits all.
      let a = c.args.process.now in
      let items = c.args.items.now in
      let i = c.loop-item.item-index in
      let item = c.item-item.result in
      c.in_ok-add_rows.ensures.items t fits
      (subst (IsToldIn t a) (sym c.item-item.is) (told_at (IsToldIn t a) items i item all c.loop-item-test.true)) (c.loop-item.invariant.items t fits all);
}

pub returns-clause-told : goal.returns-clause-told
returns-clause-told c = λ t crew a given test fits is tells all near.
    let items = c.args.items.now in
    let i = c.loop-item.item-index in
    let word = last_word [] (take i items) in
    subst (λ left. AreEverTold t [] c.loop-item.rows.items
    (joint_lines_of test a (flat_map both_of (items_told t [] items) ++ made_left (Some Dir)))
    (joint_lines_of test a (flat_map both_of (items_told t word left) ++ made_left (Some Dir))))
    (drop_of_length-le items (omega (arith, c.loop-item-test.false)))
    (c.loop-item.invariant.told t crew a given test fits is tells all near).told
