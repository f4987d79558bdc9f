pub mod Adding
pub mod Stripes
pub mod Owning
