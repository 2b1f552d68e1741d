pub mod Nowhere
pub mod Starts
