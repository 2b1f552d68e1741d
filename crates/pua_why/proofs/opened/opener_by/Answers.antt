use Rattle.pua_why.proofs.Openers.{kept_out}
use Rattle.pua_why.proofs.opened.opener_by.Goals as goal

pub returns-in-Some : goal.returns-in-Some
returns-in-Some g c = kept_out _ _ _ c.in-Some.ensures
