pub mod Known
pub mod Determined
