-- The claim, in reading order: what a reader has to believe of a reach, and of what refuses an audit.
pub mod Limits
pub mod Reach
pub mod Begin
pub mod FaultTexts
-- What is proved of these.
pub mod Laws
pub mod SubLists
pub mod Renumbering
pub mod PairTexts
pub mod Judge
pub mod Graphs
-- Worked rows, which hold by computation.
pub mod Examples
-- What contracts see of an audit, and how much work it is.
pub mod AuditState
pub mod Lent
pub mod Live
pub mod Bounds
-- Notes: how an audit begins.
pub mod Alphabets
pub mod Starting
-- Notes: its table of steps while it is made.
pub mod Entries
pub mod Table
pub mod Rows
pub mod Covers
pub mod Placed
pub mod Spots
-- Notes: its walk.
pub mod Ready
pub mod WordPaths
pub mod Coming
