pub mod Spheres
pub mod Roots
pub mod Cylinders
pub mod Cones
pub mod Cubes
pub mod Triangles
pub mod Solids
