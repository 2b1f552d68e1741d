-- The claim, in reading order.
pub mod Tight
pub mod Texts
pub mod Narrower
-- What is proved of it.
pub mod Laws
pub mod JointLaws
pub mod Trials
-- A claim too: it rests on `leave_out` of Laws and on Trials.
pub mod Uses
-- What the code's fields say.
pub mod Left
pub mod Several
pub mod Starts
-- Worked rows, which hold by computation.
pub mod Examples
