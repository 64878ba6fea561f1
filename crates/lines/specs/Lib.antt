pub mod Wrote
pub mod Pieces
pub mod Bounds
