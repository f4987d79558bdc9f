pub mod Scanning
pub mod Splitting
pub mod Keeping
