use Rattle.std.proofs.Common.{refl, rules}
use Rattle.pua_words.proofs.words.audit_of.Goals as goal

pub returns-in-Some-clause-read : goal.returns-in-Some-clause-read
returns-in-Some-clause-read c = (c.in-Some.words, refl, search rules)
