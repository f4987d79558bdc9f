pub mod Entries
pub mod Scenes
