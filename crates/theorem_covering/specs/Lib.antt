pub mod Scenes
pub mod Covering
