pub mod Lined
pub mod Collect
pub mod Slices
