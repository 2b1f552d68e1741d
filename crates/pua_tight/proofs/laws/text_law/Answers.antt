use Rattle.pua_tight.proofs.TextOfFewer.{texts_are_read, tight_texts_are_read}
use Rattle.pua_tight.proofs.laws.text_law.Goals as goal

pub returns-clause-written : goal.returns-clause-written
returns-clause-written c = texts_are_read

pub returns-clause-tight : goal.returns-clause-tight
returns-clause-tight c = tight_texts_are_read
