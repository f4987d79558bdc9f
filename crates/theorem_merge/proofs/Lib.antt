pub mod Names
pub mod Solids
pub mod Lists
pub mod Lines
pub mod Merged
