use Rattle.std.proofs.Common.{◌≡◌, drop}
use Rattle.pua_tight.specs.Left.{lines_by}
use Rattle.pua_tight.specs.Trials.{trials_from}
use Rattle.pua_tight.proofs.trial.trials_of.Given as goal

-- the trials of the lines from one on
abbrev pub invariant-loop-line : goal.invariant-loop-line
invariant-loop-line l = l.trials.items ≡ trials_from l.line (drop l.line (lines_by l.asked l.requests l.answers))
