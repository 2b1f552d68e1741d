-- The claim, in reading order: what a reader has to believe of what is written and read.
pub mod Sinks
pub mod Sources
pub mod Held
-- Worked rows, which hold by computation.
pub mod Examples
-- Notes: what inputs in memory keep.
pub mod Named
