pub mod Placings
pub mod Extents
pub mod Checks
pub mod Stored
