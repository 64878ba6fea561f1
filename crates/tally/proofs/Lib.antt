pub mod Onward
pub mod Opens
pub mod Tallies
pub mod Counts
pub mod Surveys
