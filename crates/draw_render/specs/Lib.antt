pub mod Render
pub mod Slices
