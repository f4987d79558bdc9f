pub mod Answers
pub mod Counting
pub mod Looking
pub mod Making
