pub mod Values
pub mod Measures
