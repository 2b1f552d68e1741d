use Rattle.pua_path.specs.Examples.{resolution_rows, root_rows, step_rows, trace_rows}
use Rattle.pua_path.proofs.laws.resolution_examples.Goals as goal

pub returns : goal.returns
returns c = record { texts = resolution_rows; roots = root_rows; steps = step_rows; traces = trace_rows }
