pub mod Seeing
pub mod Answers
