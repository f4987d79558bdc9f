pub mod Stripes
pub mod Lines
