pub mod Parts
pub mod Files
pub mod Determined
