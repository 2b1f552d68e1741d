-- The laws are the theorems.
use Rattle.pua_ever.proofs.Holding.{families_go_along}
use Rattle.pua_ever.proofs.Through.{ever_through_execs, starts_through_execs, ever_lasts}
use Rattle.pua_ever.proofs.Narrowed.{families_narrow_through, families_confine_through}
use Rattle.pua_ever.proofs.Lasts.{ever_lasts_after_read, now_within_lasting}
use Rattle.pua_ever.proofs.laws.through_law.Goals as goal

pub returns-clause-along : goal.returns-clause-along
returns-clause-along c = families_go_along

pub returns-clause-narrows : goal.returns-clause-narrows
returns-clause-narrows c = families_narrow_through

pub returns-clause-confines : goal.returns-clause-confines
returns-clause-confines c = families_confine_through

pub returns-clause-through : goal.returns-clause-through
returns-clause-through c = ever_through_execs

pub returns-clause-starts : goal.returns-clause-starts
returns-clause-starts c = starts_through_execs

pub returns-clause-lasts : goal.returns-clause-lasts
returns-clause-lasts c = ever_lasts

pub returns-clause-read : goal.returns-clause-read
returns-clause-read c = ever_lasts_after_read

pub returns-clause-now : goal.returns-clause-now
returns-clause-now c = now_within_lasting
