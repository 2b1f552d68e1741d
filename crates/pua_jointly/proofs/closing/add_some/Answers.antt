use Rattle.pua_jointly.proofs.Common.{◌∙◌}
use Rattle.pua_jointly.proofs.closing.add_some.Goals as goal

pub loop-row-preserved : goal.loop-row-preserved
loop-row-preserved g c = record {
  full = c.add_row.ensures.full ∙ c.loop-row.invariant.full;
  reached = λ from. c.add_row.ensures.reached (c.loop-row.invariant.reached from);
}
