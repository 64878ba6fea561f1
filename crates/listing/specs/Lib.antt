pub mod HeadFiles
pub mod Bounds
pub mod Listed
