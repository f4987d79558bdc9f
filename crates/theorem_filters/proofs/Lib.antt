pub mod Kept
pub mod Passing
pub mod Cutting
