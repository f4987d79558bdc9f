pub mod Vectors
pub mod Sifting
pub mod Moved
pub mod Joins
pub mod Nesting
pub mod Listing
