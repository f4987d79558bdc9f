pub mod Copies
pub mod Plants
pub mod Answers
pub mod Names
