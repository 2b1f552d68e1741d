-- The laws are the theorems.
use Rattle.pua_ever.proofs.EnclosedAlong.{enclosed_stay, enclosed_through_execs, enclosed_with_execs}
use Rattle.pua_ever.proofs.ShownEver.{ever_inside}
use Rattle.pua_ever.proofs.ShownLasts.{ever_shown, ever_shown_after_read, ever_shown_lasts, inside_through_execs, without_shown_exec}
use Rattle.pua_ever.proofs.laws.enclosed_law.Goals as goal

pub returns-clause-stay : goal.returns-clause-stay
returns-clause-stay c = enclosed_stay

pub returns-clause-many : goal.returns-clause-many
returns-clause-many c = enclosed_with_execs

pub returns-clause-through : goal.returns-clause-through
returns-clause-through c = enclosed_through_execs

pub returns-clause-inside : goal.returns-clause-inside
returns-clause-inside c = ever_inside

pub returns-clause-shown : goal.returns-clause-shown
returns-clause-shown c = ever_shown

pub returns-clause-exec : goal.returns-clause-exec
returns-clause-exec c = without_shown_exec

pub returns-clause-inside_through : goal.returns-clause-inside_through
returns-clause-inside_through c = inside_through_execs

pub returns-clause-lasts : goal.returns-clause-lasts
returns-clause-lasts c = ever_shown_lasts

pub returns-clause-after_read : goal.returns-clause-after_read
returns-clause-after_read c = ever_shown_after_read
