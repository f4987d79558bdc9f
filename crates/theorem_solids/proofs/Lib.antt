pub mod Whole
pub mod Same
pub mod Distances
pub mod OpenCube
