pub mod Writes
pub mod Digits
pub mod Shown
pub mod Parts
