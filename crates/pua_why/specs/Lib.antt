-- In reading order: why a request is answered as it is, since which line, and how both are written.
pub mod Reasons
pub mod Keys
pub mod Since
pub mod Facts
pub mod Openings
pub mod Texts
pub mod Columns
pub mod Unknown
pub mod Checked
pub mod Seen
pub mod TreePaths
-- What is proved of these.
pub mod Laws
pub mod Truths
-- Worked rows, which hold by computation.
pub mod Examples
