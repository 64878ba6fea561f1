pub mod Walks
pub mod Tallied
pub mod Surveyed
