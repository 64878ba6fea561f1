pub mod Text
pub mod Radix
pub mod Steps
