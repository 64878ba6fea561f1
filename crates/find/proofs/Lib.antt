pub mod Finding
pub mod Behind
