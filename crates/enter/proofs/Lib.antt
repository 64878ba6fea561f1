pub mod Ready
pub mod Placing
pub mod Surveyed
