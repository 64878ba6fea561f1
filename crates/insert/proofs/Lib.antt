pub mod Halving
pub mod Placing
