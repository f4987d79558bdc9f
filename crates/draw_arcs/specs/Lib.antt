pub mod Stances
pub mod Rings
pub mod Runs
