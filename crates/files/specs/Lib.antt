pub mod Unprotected
