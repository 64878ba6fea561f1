pub mod Maps
pub mod Bounds
