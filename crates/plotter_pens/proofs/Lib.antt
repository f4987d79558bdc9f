pub mod Scans
pub mod Sound
pub mod Finite
pub mod Answers
pub mod Rounds
pub mod Nearing
