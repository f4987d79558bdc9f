pub mod Bridge
pub mod Drawings
pub mod Endings
pub mod Answered
pub mod Ranges
