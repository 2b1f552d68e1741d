use Rattle.pua_jointly.proofs.Common.{subst, sym}
use Rattle.std.specs.List.{AllByRecursion}
use Rattle.pua_ever.specs.EverList.{IsRowOn}
use Rattle.pua_jointly.specs.JointList.{AreJointBut}
use Rattle.pua_jointly.proofs.JointLines.{made_told}
use Rattle.pua_ever.proofs.ForCallers.{all_more, made_on}
use Rattle.pua_jointly.proofs.joint_list.add_made.Goals as goal

pub loop-coming-preserved : goal.loop-coming-preserved
loop-coming-preserved c = record {
  told = λ t crew a given test items is tells so_far.
      made_told t c.args.table.now crew a given test tells items c.loop-coming.rows.items c.push.new.self.items c.made_row.result c.in-Some.made
      c.after-coming.result c.made_row.ensures.at.0 c.made_row.ensures.at.1 c.made_row.ensures.about.0 (c.made_row.ensures.thing t)
      (c.made_row.ensures.calls t crew a given is) c.after-coming.ensures c.in-Ok.ensures.items
      (subst (AreJointBut t a test items c.loop-coming.rows.items) c.in-Some.is (c.loop-coming.invariant.told t crew a given test items is tells so_far));
  items = λ t a all.
      subst (AllByRecursion (IsRowOn t a)) (sym c.in-Ok.ensures.items)
      (all_more (IsRowOn t a) c.loop-coming.rows.items c.made_row.result (c.loop-coming.invariant.items t a all)
      (made_on t a c.made_row.result c.in-Some.made c.made_row.ensures.about.0 c.made_row.ensures.about.1));
}

pub returns-clause-told : goal.returns-clause-told
returns-clause-told c = λ t crew a given test items is tells so_far.
    subst (AreJointBut t a test items c.loop-coming.rows.items) c.in_default.is (c.loop-coming.invariant.told t crew a given test items is tells so_far)
