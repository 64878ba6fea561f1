pub mod Refusals
pub mod Order
pub mod Points
pub mod Kept
pub mod Room
