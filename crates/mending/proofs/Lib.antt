pub mod Stops
pub mod Passing
pub mod Renewing
pub mod Onward
