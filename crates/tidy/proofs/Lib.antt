pub mod Runs
pub mod Tidying
pub mod Anew
pub mod Headers
pub mod InPlace
pub mod Following
pub mod AfterTidy
pub mod Looking
