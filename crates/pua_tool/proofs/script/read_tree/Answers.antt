use Rattle.pua_tool.proofs.Common.{rules, as_listing}
use Rattle.pua_tool.proofs.script.read_tree.Goals as goal

pub returns-in-Ok-clause-read : goal.returns-in-Ok-clause-read
returns-in-Ok-clause-read c = λ i. as_listing (c.in-Ok.ensures.ok i)

pub returns-in-Err-clause-refused : goal.returns-in-Err-clause-refused
returns-in-Err-clause-refused c = λ other. λ i. as_listing (c.in-Err.ensures.err (search rules) i)
