pub mod Rdp
pub mod Demand
