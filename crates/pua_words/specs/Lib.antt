-- The claim, in reading order: what a reader has to believe of what words ask for, and of which usage line is told.
pub mod Commands
pub mod Grammar
pub mod Reading
pub mod Plain
pub mod Usages
