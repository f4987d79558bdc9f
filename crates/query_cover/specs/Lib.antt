pub mod Covered
pub mod Promise
