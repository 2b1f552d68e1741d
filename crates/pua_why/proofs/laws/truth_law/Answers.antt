use Rattle.pua_why.proofs.Truths.{check_faults_hold, request_faults_hold, full_trees_are_full}
use Rattle.pua_why.proofs.laws.truth_law.Goals as goal

pub returns-clause-checks : goal.returns-clause-checks
returns-clause-checks c = check_faults_hold

pub returns-clause-requests : goal.returns-clause-requests
returns-clause-requests c = request_faults_hold

pub returns-clause-full : goal.returns-clause-full
returns-clause-full c = full_trees_are_full
