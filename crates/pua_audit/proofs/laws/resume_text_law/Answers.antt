use Rattle.pua_audit.proofs.PairTexts.{resume_texts_name}
use Rattle.pua_audit.proofs.laws.resume_text_law.Goals as goal

pub returns : goal.returns
returns c = resume_texts_name
