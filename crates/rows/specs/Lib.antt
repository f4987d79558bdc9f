pub mod Rows
pub mod Points
pub mod Entries
pub mod Starts
