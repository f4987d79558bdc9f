pub mod Seeing
pub mod Sheets
pub mod Traces
pub mod Draws
pub mod Counted
