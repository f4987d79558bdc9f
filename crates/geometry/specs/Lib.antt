pub mod Vectors
pub mod Rays
pub mod Hits
pub mod Boxes
pub mod Limits
