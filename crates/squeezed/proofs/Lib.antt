pub mod Examples
pub mod Copied
pub mod Intact
pub mod Steps
pub mod Along
pub mod Walk
