pub mod OpenRun
pub mod Tidied
pub mod Changes
