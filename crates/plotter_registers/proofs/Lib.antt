pub mod Accepting
pub mod Keeping
pub mod Moving
