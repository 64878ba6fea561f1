pub mod Links
pub mod Faults
pub mod Chains
pub mod Measuring
pub mod Replaced
