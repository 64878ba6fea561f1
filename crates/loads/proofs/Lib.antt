pub mod Bytes
pub mod Parts
pub mod Streams
pub mod Trips
pub mod Ahead
pub mod Laws
pub mod Examples
