pub mod Days
pub mod Determined
