pub mod Anew
pub mod Counting
pub mod Parts
pub mod InPlace
