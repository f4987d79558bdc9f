pub mod Outlines
pub mod Calls
