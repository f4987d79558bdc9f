pub mod Inputs
pub mod Answers
pub mod Records
