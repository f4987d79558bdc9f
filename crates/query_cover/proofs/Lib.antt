pub mod Telling
pub mod Answers
pub mod Promise
