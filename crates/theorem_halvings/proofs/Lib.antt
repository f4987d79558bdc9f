pub mod Nearness
pub mod Tight
pub mod Alike
pub mod Drawn
