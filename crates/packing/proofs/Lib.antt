pub mod Copying
pub mod Walks
pub mod Outs
pub mod Rendering
pub mod Listing
pub mod Chains
