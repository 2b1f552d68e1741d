use Rattle.pua_tool.proofs.RowColumns.{counted_steps}
use Rattle.pua_tool.proofs.columns.steps_to.Goals as goal

pub returns-clause-steps : goal.returns-clause-steps
returns-clause-steps c = λ behind is.
    counted_steps behind c.args.trials.now is c.args.meant.now.targets.items c.args.call c.in_ok-count.field-0 c.in_ok-count.ensures.way
