-- The laws are the theorems.
use Rattle.pua_ever.proofs.Together.{ever_together, joined_turns, together_after_read, together_lasts, together_starts}
use Rattle.pua_ever.proofs.laws.together_law.Goals as goal

pub returns-clause-together : goal.returns-clause-together
returns-clause-together c = ever_together

pub returns-clause-turns : goal.returns-clause-turns
returns-clause-turns c = joined_turns

pub returns-clause-starts : goal.returns-clause-starts
returns-clause-starts c = together_starts

pub returns-clause-lasts : goal.returns-clause-lasts
returns-clause-lasts c = together_lasts

pub returns-clause-read : goal.returns-clause-read
returns-clause-read c = together_after_read
