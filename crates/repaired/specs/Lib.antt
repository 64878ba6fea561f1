pub mod Kept
pub mod Tool
pub mod Examples
