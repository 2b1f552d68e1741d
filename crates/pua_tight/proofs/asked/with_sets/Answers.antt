use Rattle.std.proofs.Common.{◌∙◌}
use Rattle.pua_tight.proofs.PromisesTogether.{set_more}
use Rattle.pua_tight.proofs.asked.with_sets.Goals as goal

pub loop-set-preserved : goal.loop-set-preserved
loop-set-preserved c =
    c.union-asked.ensures
    ∙ set_more c.args.sets.now c.loop-set.set-index c.args.others c.loop-set.asked c.set-item.result c.loop-set-test.true c.set-item.is
    c.loop-set.invariant
