-- The claim, in reading order: what a reader has to believe of the lines of texts, and of the lists that they make.
pub mod Lines
pub mod Openings
pub mod FileLines
pub mod RootLines
pub mod States
pub mod ObjectLines
pub mod EverLines
pub mod EverHowLines
pub mod TogetherLines
pub mod BesideLines
pub mod WhyLines
-- Notes: what the code has of lists, what a writing leaves, and what is put at once.
pub mod Lists
pub mod EndingsState
pub mod ListLines
pub mod VeilDates
pub mod WhyLists
pub mod Members
pub mod Tells
pub mod Blocks
pub mod Copied
pub mod PathLines
pub mod KeptPaths
