pub mod Halving
pub mod Waiting
