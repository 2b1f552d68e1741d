use Rattle.pua_ever.proofs.Common.{refl, sym, ap, subst, ◌∙◌, arith}
use Rattle.std.proofs.Common.{◌+◌, drop}
use Rattle.std.proofs.lemmas.List.{take_all}
use Rattle.pua_ever.specs.EverList.{abouts}
use Rattle.pua_ever.proofs.RowsLast.{Through, abouts_more, all_through, through_more}
use Rattle.pua_ever.proofs.lasting_list.let_through.Goals as goal

pub loop-row-init : goal.loop-row-init
loop-row-init c = record {
  told = λ t lines told.
      subst (λ new. Through t c.args.passes lines c.args.rows.now new) (sym c.new-through.ensures.items)
      (record { rest = lines; coming = told; told = refl });
  same = ap abouts c.new-through.ensures.items;
}

pub loop-row-preserved : goal.loop-row-preserved
loop-row-preserved c = record {
  told = λ t lines told.
      subst (λ new. Through t c.args.passes lines (drop (c.loop-row.row-index + 1) c.args.rows.now) new) (sym c.in-Ok.ensures.items)
      (through_more t c.args.passes c.args.rows.now c.row-item.result c.loop-row.row-index c.loop-row-test.true c.row-item.is
      c.let_through-line.result c.let_through-line.ensures.thing c.let_through-line.ensures.line lines c.loop-row.through.items
      (c.loop-row.invariant.told t lines told));
  same =
      ap abouts c.in-Ok.ensures.items
      ∙ abouts_more c.args.rows.now c.row-item.result c.loop-row.row-index c.loop-row-test.true c.row-item.is c.loop-row.through.items _ refl
      c.loop-row.invariant.same;
}

pub returns-clause-told : goal.returns-clause-told
returns-clause-told c = λ t lines told.
    all_through t c.args.passes c.args.rows.now c.loop-row.row-index (omega (arith, c.loop-row-test.false)) lines
    c.loop-row.through.items (c.loop-row.invariant.told t lines told)

pub returns-clause-same : goal.returns-clause-same
returns-clause-same c =
    c.loop-row.invariant.same ∙ ap abouts (take_all c.loop-row.row-index c.args.rows.now (omega (arith, c.loop-row-test.false)))
