-- The claim, in reading order: what a reader has to believe of promises, calls and what they need.
pub mod Promises
pub mod Misfits
pub mod Effects
pub mod Facts
pub mod Calls
pub mod Neighbours
pub mod CallSets
pub mod TmpTable
pub mod Tables
pub mod TableTexts
pub mod FaultTexts
-- Worked rows on these, which hold by computation.
pub mod TableExamples
