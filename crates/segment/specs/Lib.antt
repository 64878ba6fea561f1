pub mod Scan
pub mod Entries
pub mod Finder
pub mod Steps
pub mod Count
pub mod Written
