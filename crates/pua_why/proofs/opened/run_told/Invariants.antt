use Rattle.pua_why.proofs.Common.{take}
use Rattle.pua_why.proofs.ToldAnswers.{AreTold}
use Rattle.pua_why.proofs.opened.run_told.Given as goal

-- the first requests were served, and their answers are told
abbrev pub invariant-loop-request : goal.invariant-loop-request
invariant-loop-request g l = AreTold l.fn.world (take l.request-index l.requests) l.answers.items l.world
