-- The claim, in reading order: what a reader has to believe of processes, and of what each call is answered.
pub mod Limits
pub mod States
pub mod History
pub mod Misfits
pub mod Verdict
pub mod Reasons
pub mod Descent
pub mod Enclosed
-- What is proved of these.
pub mod Laws
pub mod ReasonLaws
-- Worked rows, which hold by computation.
pub mod Examples
-- Notes: what the code tells of an object.
pub mod Objects
-- Notes: what is worked out once of what a process is allowed.
pub mod AllowedCalls
