use Rattle.std.proofs.Common.{ap, Some}
use Rattle.pua_how.proofs.about.standing.Goals as goal

pub returns-in_ok-name-in-Name : goal.returns-in_ok-name-in-Name
returns-in_ok-name-in-Name g c = λ last. rw (c.in_ok-name-in-Name.was, c.in-Name.is) (ap Some (c.named.ensures last))
