pub mod Parts
pub mod Listing
pub mod Gathering
pub mod Sorting
pub mod Alike
pub mod Taking
