use Rattle.std.proofs.Common.{arith}
use Rattle.pua_how.proofs.Meaning.{higher_more}
use Rattle.pua_how.proofs.path_question.highest.Goals.{then-number, else-number}
use Rattle.pua_how.proofs.path_question.highest.Goals as goal

pub loop-row-preserved : goal.loop-row-preserved
loop-row-preserved c =
    let rows = c.args.rows.now in
    let i = c.loop-row.row-index in
    elim c.if-number.branch [
      | then-number w ↦ rw w.last-is record {
        highest = higher_more rows i c.row-item.result c.loop-row.last c.row-item.result.node c.loop-row-test.true c.row-item.is
            (omega (arith, w.if-number.true, c.number.ensures, c.number-in-loop-row.ensures)) (omega arith) c.loop-row.invariant.highest;
      }
      | else-number w ↦ rw w.last-is record {
        highest = higher_more rows i c.row-item.result c.loop-row.last c.loop-row.last c.loop-row-test.true c.row-item.is
            (omega arith) (omega (arith, w.if-number.false, c.number.ensures, c.number-in-loop-row.ensures)) c.loop-row.invariant.highest;
      }
    ]
