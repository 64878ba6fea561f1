pub mod Reading
pub mod Determined
