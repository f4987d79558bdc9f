pub mod Moving
pub mod Pushing
