pub mod Overlaps
pub mod Slabs
pub mod Whole
pub mod Cramer
pub mod Planes
pub mod Farthest
pub mod Peucker
pub mod Demand2
