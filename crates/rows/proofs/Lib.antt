pub mod Rows
pub mod Backs
pub mod Starts
