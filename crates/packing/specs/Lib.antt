pub mod Packs
pub mod Anew
