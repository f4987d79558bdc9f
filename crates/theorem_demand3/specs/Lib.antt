pub mod Terms
pub mod Demand3
pub mod Witnesses
