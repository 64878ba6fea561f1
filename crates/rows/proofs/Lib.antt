pub mod Sums
pub mod Shows
pub mod Ahead
