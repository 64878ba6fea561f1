pub mod Judged
pub mod Determined
