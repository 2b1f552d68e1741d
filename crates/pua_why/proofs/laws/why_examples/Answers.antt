use Rattle.pua_why.specs.Examples.{file_rows, opening_rows, root_rows, why_rows}
use Rattle.pua_why.proofs.laws.why_examples.Goals as goal

pub returns : goal.returns
returns c = record { reasons = why_rows; openings = opening_rows; files = file_rows; roots = root_rows }
