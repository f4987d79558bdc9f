pub mod Lost
pub mod Rings
pub mod Scenes
