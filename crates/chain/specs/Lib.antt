pub mod Chained
pub mod Head
pub mod Measure
pub mod Told
