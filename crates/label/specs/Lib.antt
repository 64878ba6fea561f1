pub mod Labels
pub mod Laws
