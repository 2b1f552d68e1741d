use Rattle.pua_how.proofs.Means.{lasting_mean_their_own, shown_mean_their_own}
use Rattle.pua_how.proofs.laws.meaning_law.Goals as goal

pub returns-clause-lasting : goal.returns-clause-lasting
returns-clause-lasting c = lasting_mean_their_own

pub returns-clause-shown : goal.returns-clause-shown
returns-clause-shown c = shown_mean_their_own
