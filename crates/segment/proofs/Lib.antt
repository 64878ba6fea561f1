pub mod Status
pub mod Scanning
pub mod Named
pub mod Searching
pub mod Ahead
pub mod Writes
pub mod Moves
pub mod Passing
