-- The claim, in reading order: what a reader has to believe of the listing of a tree.
pub mod Order
pub mod Entries
pub mod Listed
pub mod Same
-- What is proved of it.
pub mod Laws
-- Worked rows, which hold by computation.
pub mod Examples
-- Notes: what the code keeps.
pub mod Lent
pub mod Numbers
