pub mod Walking
pub mod Tidied
pub mod Noted
pub mod Surveys
pub mod Along
