pub mod Memory
pub mod Faults
pub mod Bounds
pub mod Blocks
pub mod Reading
pub mod Writing
pub mod Laws
