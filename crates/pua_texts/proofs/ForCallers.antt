-- What crates above cite of the proofs of this one, beside the definitions and the laws.

-- what follows from what an answer or a fault says is said of it too
pub use Rattle.pua_texts.proofs.Outcomes.{if_err, if_ok}
-- since which lines the veils of a process have their letters
pub use Rattle.pua_texts.proofs.VeilDates.{dates_are}
