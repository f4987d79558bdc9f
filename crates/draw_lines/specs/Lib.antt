pub mod Pushing
pub mod Cubes
pub mod Lines
