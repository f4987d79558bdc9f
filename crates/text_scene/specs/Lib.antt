-- The text of `yard` as a view and a scene.
pub mod Texts
pub mod Answers
pub mod Readings
pub mod Sample
