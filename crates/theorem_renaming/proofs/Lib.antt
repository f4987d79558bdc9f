pub mod Trees
pub mod Drawings
