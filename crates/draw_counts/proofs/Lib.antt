pub mod Passing
pub mod Counted
