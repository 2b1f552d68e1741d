pub mod Common
pub mod Sets
pub mod CallBits
pub mod NoError
pub mod Rows
pub mod TmpTable
mod FactRows
pub mod TableTexts
pub mod TableExamples
pub mod Keywords
pub mod Neighbours
pub mod SoundTexts
pub mod ForCallers
