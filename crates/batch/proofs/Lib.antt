pub mod Fold
pub mod AtMost
pub mod Determined
