pub mod Discs
pub mod Closed
