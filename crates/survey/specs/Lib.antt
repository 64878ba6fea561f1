pub mod Runs
pub mod Surveyed
