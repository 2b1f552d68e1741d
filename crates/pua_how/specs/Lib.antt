-- The claim, in reading order: what is asked about, and what a way to it is.
pub mod Targets
pub mod Ways
pub mod PathQuestion
-- What is proved of these.
pub mod Laws
-- Worked rows, which hold by computation.
pub mod Examples
-- Notes: what the steps of a plan come to, and what contracts see of the lines that were served, of what a list for ever has, and
-- of a question.
pub mod Steps
pub mod Served
pub mod Outlooks
pub mod Asked
