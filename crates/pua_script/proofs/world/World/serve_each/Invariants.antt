use Rattle.pua_script.proofs.Common.{take, AreDone}
use Rattle.pua_script.proofs.world.World.serve_each.Given as goal

-- the first requests were served, over trees
abbrev pub invariant-loop-request : goal.invariant-loop-request
invariant-loop-request g l = AreDone l.fn.self (take l.request-index l.requests) l.answers.items l.self
