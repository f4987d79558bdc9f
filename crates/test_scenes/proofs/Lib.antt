pub mod CheckAnswers
pub mod Slices
