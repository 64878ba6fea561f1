pub mod Heads
pub mod Links
pub mod Scan
pub mod Runs
pub mod Top
pub mod Lists
