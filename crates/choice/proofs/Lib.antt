pub mod Fitting
pub mod FirstFit
pub mod Longs
pub mod Rooms
pub mod Visits
pub mod Sizes
