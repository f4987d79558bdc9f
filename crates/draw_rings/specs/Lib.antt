pub mod Ring
pub mod Pieces
pub mod Spheres
pub mod Promise
