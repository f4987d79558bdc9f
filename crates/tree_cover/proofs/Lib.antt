pub mod Agreeing
pub mod Sighting
pub mod Turns
