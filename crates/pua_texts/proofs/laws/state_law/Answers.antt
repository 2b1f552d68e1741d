use Rattle.pua_texts.proofs.OpeningsPrinted.{openings_are_printed}
use Rattle.pua_texts.proofs.StateLaw.{state_is_printed}
use Rattle.pua_texts.proofs.laws.state_law.Goals as goal

pub returns-clause-state : goal.returns-clause-state
returns-clause-state c = state_is_printed

pub returns-clause-openings : goal.returns-clause-openings
returns-clause-openings c = openings_are_printed
