pub mod Checked
pub mod Reading
pub mod Turned
pub mod Fields
