use Rattle.std.proofs.Common.{◌≡◌, ◌++◌, take}
use Rattle.pua_tight.proofs.Trying.{trials_at}
use Rattle.pua_tight.proofs.trial.add_trials.Given as goal

-- the pieces so far
abbrev pub invariant-loop-piece : goal.invariant-loop-piece
invariant-loop-piece l = l.trials.items ≡ l.fn.trials.items ++ trials_at l.line (take l.piece-index l.pieces)
