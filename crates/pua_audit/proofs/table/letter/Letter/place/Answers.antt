use Rattle.pua_audit.proofs.Common.{rules}
use Rattle.pua_audit.proofs.table.letter.Letter.place.Goals as goal

pub returns-clause-to : goal.returns-clause-to
returns-clause-to c = search rules
