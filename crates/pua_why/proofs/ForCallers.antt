-- What crates above cite of the proofs of this one, beside the definitions and the laws.

-- a reason is what the checks tell, and the answer; and gives the answer
pub use Rattle.pua_why.proofs.Checking.{checks_tell}
pub use Rattle.pua_why.proofs.Decisions.{reasons_give_answers, reasons_give_decisions}
-- answers that are told with what opened them
pub use Rattle.pua_why.proofs.ToldAnswers.{answers_are_told}
-- what a text got where nothing was refused
pub use Rattle.pua_why.proofs.Adding.{pushed_so}
-- what a fault says is so, and since when something is
pub use Rattle.pua_why.proofs.Truths.{request_faults_hold, full_trees_are_full}
pub use Rattle.pua_why.proofs.Sincing.{since_holds, reasons_since, so_at_first}
