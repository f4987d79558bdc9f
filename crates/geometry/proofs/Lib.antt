pub mod Nested
pub mod Lengths
pub mod Segments
