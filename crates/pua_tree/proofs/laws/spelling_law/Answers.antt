use Rattle.pua_tree.proofs.ListingGrammar.{spellings_are_read}
use Rattle.pua_tree.proofs.laws.spelling_law.Goals as goal

pub returns : goal.returns
returns c = spellings_are_read
