pub mod Passing
pub mod Sound
