-- What is asked of a scene whose entry is written.
pub mod Entries
