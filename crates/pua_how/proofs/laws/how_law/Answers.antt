use Rattle.pua_how.proofs.Coming.{never_comes, never_comes_shown, never_comes_through, ways_are_listed}
use Rattle.pua_how.proofs.laws.how_law.Goals as goal

pub returns-clause-never : goal.returns-clause-never
returns-clause-never c = never_comes

pub returns-clause-through : goal.returns-clause-through
returns-clause-through c = never_comes_through c.through_law.ensures.lasts

pub returns-clause-shown : goal.returns-clause-shown
returns-clause-shown c = never_comes_shown c.enclosed_law.ensures.lasts

pub returns-clause-listed : goal.returns-clause-listed
returns-clause-listed c = ways_are_listed c.ever_law.ensures.complete
