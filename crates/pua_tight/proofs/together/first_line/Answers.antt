use Rattle.std.proofs.Common.{sym}
use Rattle.pua_tight.proofs.Starts.{from_last}
use Rattle.pua_tight.proofs.together.first_line.Goals as goal

pub returns-in-Some : goal.returns-in-Some
returns-in-Some c = λ want d. from_last want c.args.trials.now c.in-Some.trial.now d (sym c.in-Some.ensures.value)
