pub mod Sheets
pub mod Draws
pub mod Counted
