pub mod Finals
pub mod Tested
pub mod Words
pub mod Closes
