pub mod Table
pub mod Degrees
pub mod Rule
