pub mod Words
pub mod Agreeing
pub mod Scripts
pub mod LineParts
pub mod Keywords
