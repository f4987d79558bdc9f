pub mod Answers
pub mod Paths
pub mod Ends
pub mod Judged
pub mod Ranges
