pub mod Slabs
pub mod Planes
pub mod Cramer
pub mod Peucker
pub mod Demand2
