use Rattle.pua_steps.specs.Examples.{live_rows, reach_rows, order_rows}
use Rattle.pua_steps.proofs.laws.steps_examples.Goals as goal

pub returns : goal.returns
returns c = record { live = live_rows; reach = reach_rows; order = order_rows }
