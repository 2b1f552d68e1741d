pub mod Common
pub mod ForCallers
pub mod Putting
pub mod Asking
