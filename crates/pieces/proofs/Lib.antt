pub mod Headers
pub mod Turns
pub mod Determined
pub mod Calls
