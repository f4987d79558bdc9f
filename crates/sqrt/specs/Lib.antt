pub mod Root
pub mod Floor
pub mod Nearest
pub mod Remainder
