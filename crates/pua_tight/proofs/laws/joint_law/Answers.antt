use Rattle.pua_tight.proofs.JointLines.{allows_no_more_jointly, lists_no_more_jointly, no_more_joint_lines}
use Rattle.pua_tight.proofs.ActsNoMore.{scripts_come_to_no_more, tight_comes_to_no_more, within_acts_no_more, worlds_come_to_no_more}
use Rattle.pua_tight.proofs.laws.joint_law.Goals as goal

pub returns-clause-allows : goal.returns-clause-allows
returns-clause-allows c = allows_no_more_jointly

pub returns-clause-lists : goal.returns-clause-lists
returns-clause-lists c = lists_no_more_jointly

pub returns-clause-lines : goal.returns-clause-lines
returns-clause-lines c = no_more_joint_lines

pub returns-clause-acting : goal.returns-clause-acting
returns-clause-acting c = within_acts_no_more

pub returns-clause-worlds : goal.returns-clause-worlds
returns-clause-worlds c = worlds_come_to_no_more

pub returns-clause-scripts : goal.returns-clause-scripts
returns-clause-scripts c = scripts_come_to_no_more

pub returns-clause-tight : goal.returns-clause-tight
returns-clause-tight c = tight_comes_to_no_more
