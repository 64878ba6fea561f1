pub mod Clashing
pub mod Listing
pub mod Placed
pub mod Buckets
pub mod Checking
