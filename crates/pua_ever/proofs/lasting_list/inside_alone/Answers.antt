use Rattle.pua_ever.proofs.Common.{refl, sym, ap, subst, ◌∙◌, ◌∷◌, ◌++◌, [], arith}
use Rattle.std.proofs.Common.{◌+◌, drop}
use Rattle.std.proofs.lemmas.List.{take_all}
use Rattle.pua_ever.specs.EverList.{abouts}
use Rattle.pua_ever.specs.declared.list.EverRow.{EverRow}
use Rattle.pua_ever.proofs.RowsLast.{Inside, abouts_more, all_inside, inside_more}
use Rattle.pua_ever.proofs.lasting_list.inside_alone.Goals as goal

pub loop-row-init : goal.loop-row-init
loop-row-init c = record {
  told = λ t root lines marked told.
      subst (λ new. Inside t root lines c.args.rows.now new) (sym c.new-inside.ensures.items)
      (record { rest = lines; coming = told; told = refl });
  same = ap abouts c.new-inside.ensures.items;
}

pub loop-row-preserved : goal.loop-row-preserved
loop-row-preserved c =
    let row : EverRow = c.row-item.result in
    record {
      told = λ t root lines marked told.
          subst (λ new. Inside t root lines (drop (c.loop-row.row-index + 1) c.args.rows.now) new)
          (sym (c.in-Ok.ensures.items ∙ (λ i. c.loop-row.inside.items
          ++ record row { line = record { thing = row.line.thing; calls = c.calls_inside.ensures i } } ∷ [])))
          (inside_more t root c.args.rows.now row c.loop-row.row-index c.loop-row-test.true c.row-item.is marked lines
          c.loop-row.inside.items (c.loop-row.invariant.told t root lines marked told));
      same =
          ap abouts c.in-Ok.ensures.items
          ∙ abouts_more c.args.rows.now row c.loop-row.row-index c.loop-row-test.true c.row-item.is c.loop-row.inside.items _ refl
          c.loop-row.invariant.same;
    }

pub returns-clause-told : goal.returns-clause-told
returns-clause-told c = λ t root lines marked told.
    all_inside t root c.args.rows.now c.loop-row.row-index (omega (arith, c.loop-row-test.false)) lines
    c.loop-row.inside.items (c.loop-row.invariant.told t root lines marked told)

pub returns-clause-same : goal.returns-clause-same
returns-clause-same c =
    c.loop-row.invariant.same ∙ ap abouts (take_all c.loop-row.row-index c.args.rows.now (omega (arith, c.loop-row-test.false)))
