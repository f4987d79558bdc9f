pub mod Reading
pub mod Filling
pub mod Boxes
pub mod Inverting
pub mod Verdicts
pub mod Accepted
