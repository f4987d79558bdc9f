pub mod Planes
pub mod Missing
