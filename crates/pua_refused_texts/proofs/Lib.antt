pub mod Rooted
pub mod Served
pub mod Walks
