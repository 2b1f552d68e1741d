use Rattle.pua_texts.proofs.Common.{◌+◌, List, refl, sym, subst, drop, arith, ever_lines}
use Rattle.pua_texts.specs.declared.list_line.ListLine.{ListLine}
use Rattle.pua_texts.proofs.EverLines.{Going, row_more, rows_done}
use Rattle.pua_texts.proofs.ever_list.ever_lines.Goals as goal

pub loop-row-init : goal.loop-row-init
loop-row-init c = λ t told are.
    subst (λ (lines : List ListLine). Going t lines c.args.rows.now (ever_lines t told)) (sym c.new-lines.ensures.items)
    (record { rest = told; told = are; text = refl })

pub loop-row-preserved : goal.loop-row-preserved
loop-row-preserved c = λ t told are.
    subst (λ (lines : List ListLine). Going t lines (drop (c.loop-row.row-index + 1) c.args.rows.now) (ever_lines t told))
    (sym c.in-Ok.ensures.items)
    (row_more t c.args.rows.now c.row-item.result c.loop-row.row-index c.loop-row-test.true c.row-item.is c.loop-row.lines.items _
    (c.loop-row.invariant t told are))

pub returns : goal.returns
returns c = λ t told are.
    rows_done t c.args.rows.now c.loop-row.row-index c.loop-row.lines.items _ (omega (arith, c.loop-row-test.false))
    (c.loop-row.invariant t told are)
