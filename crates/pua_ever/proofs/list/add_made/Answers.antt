use Rattle.pua_ever.proofs.Common.{sym, subst}
use Rattle.std.specs.List.{AllByRecursion}
use Rattle.pua_ever.specs.EverList.{AreRowsBut, IsRowOn}
use Rattle.pua_ever.proofs.RowsTell.{all_more, made_on, made_told}
use Rattle.pua_ever.proofs.list.add_made.Goals as goal

pub loop-coming-preserved : goal.loop-coming-preserved
loop-coming-preserved c = record {
  told = λ t table h items found so_far.
      made_told t table h items c.loop-coming.rows.items c.push.new.self.items c.made_row.result c.in-Some.made c.after-coming.result
      c.made_row.ensures.at.0 c.made_row.ensures.at.1 c.made_row.ensures.about.0 (c.made_row.ensures.thing t) (c.made_row.ensures.calls t table h found)
      c.after-coming.ensures c.in-Ok.ensures.items
      (subst (AreRowsBut t table h items c.loop-coming.rows.items) c.in-Some.is (c.loop-coming.invariant.told t table h items found so_far));
  items = λ t h all.
      subst (AllByRecursion (IsRowOn t h)) (sym c.in-Ok.ensures.items)
      (all_more (IsRowOn t h) c.loop-coming.rows.items c.made_row.result (c.loop-coming.invariant.items t h all)
      (made_on t h c.made_row.result c.in-Some.made c.made_row.ensures.about.0 c.made_row.ensures.about.1));
}

pub returns-clause-told : goal.returns-clause-told
returns-clause-told c = λ t table h items found so_far.
    subst (AreRowsBut t table h items c.loop-coming.rows.items) c.in_default.is (c.loop-coming.invariant.told t table h items found so_far)
