pub mod Moves
pub mod Intact
pub mod Squeeze
pub mod Examples
