pub mod Asked
pub mod Demand1
pub mod Demands
