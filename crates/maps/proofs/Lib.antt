pub mod Mapping
pub mod Determined
