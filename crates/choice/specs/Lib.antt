pub mod Choice
pub mod Judged
pub mod Room
pub mod Asks
