use Rattle.pua_how.specs.Served.{AreGranted}
use Rattle.pua_how.proofs.StepsComeToCall.{AreOn}
use Rattle.pua_how.proofs.serve.serve_first.Given as goal

-- the lines so far were granted, and the steps come to a call where those that are left do
abbrev pub invariant-loop-step : goal.invariant-loop-step
invariant-loop-step g l = record {
  granted : AreGranted l.rules l.fn.world l.process l.lines.items l.world;
  on : AreOn l.rules l.fn.world l.process l.steps l.step-index l.world l.made;
}
