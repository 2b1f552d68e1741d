-- The claim, in reading order: what a reader has to believe of paths: which there are, and what each names.
pub mod Limits
pub mod Paths
pub mod Resolution
pub mod Traces
pub mod Fits
pub mod Goes
pub mod ErrnoNames
-- What is proved of these.
pub mod Laws
pub mod TraceLaws
-- Worked rows, which hold by computation.
pub mod Examples
-- What contracts say of looks at a tree.
pub mod Counts
pub mod Bounds
-- Notes: a resolution on its way, as the code takes it.
pub mod Kinds
pub mod Pieces
pub mod Remaining
pub mod Walks
pub mod Onward
