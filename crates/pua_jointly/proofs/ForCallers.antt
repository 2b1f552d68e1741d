-- What crates above cite of the proofs of this one, beside the definitions and the laws.

-- what a process starts counts where it says so
pub use Rattle.pua_jointly.proofs.JointCounting.{program_given}
-- what can be made a program by a process can be by one that holds more
pub use Rattle.pua_jointly.proofs.JointlyGrows.{open_more, turning_more}
-- what is found of them one after another, until no other has to count
pub use Rattle.pua_jointly.proofs.JointCounting.{AreSoFar, so_far_all, so_far_first, so_far_more, then_starts}
