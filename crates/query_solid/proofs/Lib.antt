pub mod Own
pub mod Lone
