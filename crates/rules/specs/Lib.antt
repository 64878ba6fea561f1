pub mod Sound
pub mod Blocks
pub mod Standing
