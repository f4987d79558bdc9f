pub mod Covers
pub mod Hiding
