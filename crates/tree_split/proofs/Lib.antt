pub mod Sweeps
pub mod Growth
pub mod Agreement
