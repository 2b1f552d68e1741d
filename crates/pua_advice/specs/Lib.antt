-- The claim, in reading order: which advice a line gets, and how it is told.
pub mod Advice
pub mod Texts
-- What is proved of it.
pub mod Laws
-- Worked rows, which hold by computation.
pub mod Examples
