pub mod Own
pub mod Simples
pub mod Answers
