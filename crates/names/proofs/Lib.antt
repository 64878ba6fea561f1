pub mod Names
pub mod Same
pub mod Determined
