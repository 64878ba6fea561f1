pub mod Marks
pub mod Loaded
pub mod Whole
pub mod Second
pub mod Determined
