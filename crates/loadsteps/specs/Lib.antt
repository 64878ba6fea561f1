pub mod Step
pub mod Run
pub mod Whole
pub mod Laws
